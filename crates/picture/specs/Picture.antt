-- The picture of a refusal: the nodes between start and end, a symbol for each, drawn so that every step towards the end goes to the right,
-- down, or to the same place in the next layer. Assumes nothing.
use Rattle.std.specs.Prelude.{cond, List, [], ◌∷◌, ◌++◌, ℕ, ◌+◌, eqb, ltb, get_or}
use Rattle.mesh.specs.Tools.{one, table}
use Rattle.mesh.specs.Mesh.{nodes, place_of}
use Rattle.mesh.specs.Cells.{Map, may_pass}
use Rattle.mesh.specs.declared.Sizes.{Sizes}
use Rattle.mesh.specs.declared.Place.{Place}
use Rattle.paths.specs.Offered.{reached}
use Rattle.rows.specs.Box.{between, gone, row_run}
use Rattle.rows.specs.declared.Run.{Run}
use Rattle.rows.specs.declared.Between.{Between}
use Rattle.text.specs.Text.{ascii, told, pieces}

-- the symbol of node k: `S` the start s, `E` the end e, `o` reached, `.` not reached, `#` not usable
unfoldable pub symbol_of : ℕ → ℕ → ℕ → ℕ → ℕ → ℕ
symbol_of s e k seen cell = cond (eqb k s) 83 (cond (eqb k e) 69 (cond (one seen) 111 (cond (may_pass cell) 46 35)))

abbrev pub symbol_in : Map → ℕ → ℕ → ℕ → ℕ
symbol_in m s e k = symbol_of s e k (get_or (reached m (place_of m.sizes s) (place_of m.sizes e)) k 0) (get_or m.cells k 0)

unfoldable pub symbols : Map → ℕ → ℕ → List ℕ
symbols m s e = table (symbol_in m s e) (nodes m.sizes)

-- a coordinate, told by one form where it has one digit and by another where it has two
unfoldable pub told_wide : List ℕ → List ℕ → ℕ → List ℕ
told_wide one two n = told (cond (ltb n 10) one two) (n ∷ [])

-- a row: its y, its symbols, its first and its last node
abbrev pub symbol_at : List ℕ → Run → ℕ → List ℕ
symbol_at drawn row a = ascii "  " ++ get_or drawn (gone row a) 0 ∷ []

unfoldable pub row_text : List ℕ → ℕ → Run → List ℕ
row_text drawn y row =
    told_wide (ascii "    y  %  ") (ascii "    y %  ") y ++ pieces (symbol_at drawn row) (row.steps + 1)
    ++ told (ascii "   nodes % to %\n") (row.from ∷ gone row row.steps ∷ [])

abbrev pub row_in : Sizes → List ℕ → Between → ℕ → ℕ → List ℕ
row_in S drawn g c b = row_text drawn (gone g.y b) (row_run S g b c)

-- a layer: its z, the x of its columns, its rows
abbrev pub column_text : Run → ℕ → List ℕ
column_text x a = told_wide (ascii "  %") (ascii " %") (gone x a)

unfoldable pub layer_head : ℕ → Run → List ℕ
layer_head z x = told (ascii "  layer z %\n    x     ") (z ∷ []) ++ pieces (column_text x) (x.steps + 1) ++ ascii "\n"

unfoldable pub layer_text : Sizes → List ℕ → Between → ℕ → List ℕ
layer_text S drawn g c = layer_head (gone g.z c) g.x ++ pieces (row_in S drawn g c) (g.y.steps + 1)

-- the ends, and the directions towards the end: `+` or `-` and the axis
unfoldable pub way_text : Run → ℕ → List ℕ
way_text r axis = cond (eqb r.steps 0) [] (32 ∷ cond r.down 45 43 ∷ axis ∷ [])

unfoldable pub ends_text : Place → Place → Between → List ℕ
ends_text u v g =
    told (ascii "  S is at (%, %, %), E at (%, %, %); steps towards the end:") (u.x ∷ u.y ∷ u.z ∷ v.x ∷ v.y ∷ v.z ∷ [])
    ++ way_text g.x 120 ++ way_text g.y 121 ++ way_text g.z 122 ++ ascii "\n"

unfoldable pub picture : Map → ℕ → ℕ → List ℕ
picture m s e =
    let u = place_of m.sizes s in
    let v = place_of m.sizes e in
    let g = between u v in
    ends_text u v g ++ pieces (layer_text m.sizes (symbols m s e) g) (g.z.steps + 1)
