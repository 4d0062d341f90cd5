-- What stands above an audit: the mesh, how its nodes are numbered, and how to read a picture. Assumes nothing.
use Rattle.std.specs.Prelude.{Bool, cond, List, [], ◌∷◌, ◌++◌, ℕ}
use Rattle.mesh.specs.declared.Sizes.{Sizes}
use Rattle.text.specs.Text.{ascii, told}

-- "Node (x, y, z) has number x + W × (y + H × z)", then how to read a picture, and why it is a proof
unfoldable pub heading_form : List ℕ
heading_form =
    ascii "mesh % x % x %; the node at (x, y, z) has the number x + % * (y + % * z)\n\n"
    ++ ascii "A direct route goes from neighbour to neighbour through nodes that can be used, and each step leads towards the end.\n"
    ++ ascii "Where there is none, a picture shows the nodes between start and end:\n\n"
    ++ ascii "  S  the start                                 #  cannot be used\n"
    ++ ascii "  o  reached by steps towards the end          .  not reached\n"
    ++ ascii "  E  the end\n\n"
    ++ ascii "It is drawn from the start: each step towards the end goes to the right, down, or to the same place in the next layer.\n"
    ++ ascii "Why it is a proof: each such step from S or from an o leads to an o or to a #. So whoever steps only towards the end\n"
    ++ ascii "stays on the nodes marked o, and E is not one of them: no direct route exists.\n\n"

abbrev pub heading_text : Sizes → List ℕ
heading_text S = told heading_form (S.w ∷ S.h ∷ S.d ∷ S.w ∷ S.h ∷ [])

-- where the log is too long, nothing else follows
unfoldable pub top_text : Sizes → Bool → List ℕ
top_text S long = heading_text S ++ cond long (ascii "the log is longer than 65536 bytes: none of it was read\n") []
