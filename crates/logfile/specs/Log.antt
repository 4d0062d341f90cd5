-- The log of transfers: text, `start end` to a line, blank lines and comments skipped. Assumes nothing.
use Rattle.std.specs.Prelude.{Bool, cond, not, ◌&&◌, ◌||◌, List, [], ◌∷◌, ℕ, ◌+◌, ◌-◌, ◌*◌, ◌^◌, eqb, ltb, leb, length, take, drop, Some, None, Option}
use Rattle.mesh.specs.Cells.{first_bad}
use Rattle.logfile.specs.declared.Entry.{Entry}
use Rattle.logfile.specs.declared.Entry.TheVariants.{Nothing, Transfer, NoPair}
use Rattle.logfile.specs.declared.Stop.{Stop}
use Rattle.logfile.specs.declared.Stop.TheVariants.{Feed, Comment, Blank, Word}

-- words are parted by spaces, tabs and carriage returns
unfoldable pub blank : ℕ → Bool
blank b = eqb b 32 || eqb b 9 || eqb b 13

unfoldable pub digit : ℕ → Bool
digit b = leb 48 b && leb b 57

-- where a stretch of text ends: at the line feed, at the `#` of a comment, at a blank, at a word
abbrev pub stops : Stop → ℕ → Bool
stops Feed b = eqb b 10
stops Comment b = eqb b 35
stops Blank b = blank b
stops Word b = not (blank b)

-- how many bytes stand before the first that stops; those bytes; and those from there on
abbrev pub before : Stop → List ℕ → ℕ
before stop text = first_bad (λ k. stops stop) text

abbrev pub up_to : Stop → List ℕ → List ℕ
up_to stop text = take (before stop text) text

abbrev pub past : Stop → List ℕ → List ℕ
past stop text = drop (before stop text) text

-- past the word in front, to the next
abbrev pub next_word : List ℕ → List ℕ
next_word text = past Word (past Blank text)

-- the lines of a log: a line feed ends a line, and the last may lack it
abbrev pub into_first : ℕ → List (List ℕ) → List (List ℕ)
into_first b [] = (b ∷ []) ∷ []
into_first b (l ∷ ls) = (b ∷ l) ∷ ls

unfoldable pub lines_of : List ℕ → List (List ℕ)
lines_of [] = []
lines_of (b ∷ bs) = cond (eqb b 10) ([] ∷ lines_of bs) (into_first b (lines_of bs))

-- a decimal number, digit by digit from the left, after those that say n: none where a byte is no digit, or the number leaves 32 bits
unfoldable pub read_from : ℕ → List ℕ → Option ℕ
read_from n [] = Some n
read_from n (b ∷ bs) = cond (digit b && ltb (10 * n + (b - 48)) (2 ^ 32)) (read_from (10 * n + (b - 48)) bs) None

unfoldable pub number_of : List ℕ → Option ℕ
number_of word = cond (eqb (length word) 0) None (read_from 0 word)

abbrev pub pair_of : Option ℕ → Option ℕ → Entry
pair_of (Some s) (Some e) = Transfer s e
pair_of (Some s) None = NoPair
pair_of None e = NoPair

-- `start end` to a line: two words, both numbers, and nothing after them but blanks and a comment; a line without a word says nothing
abbrev pub entry_by : List ℕ → List ℕ → List ℕ → Entry
entry_by first second rest =
    cond (eqb (length first) 0) Nothing
    (cond (eqb (length rest) 0) (pair_of (number_of (up_to Blank first)) (number_of (up_to Blank second))) NoPair)

abbrev pub entry_from : List ℕ → Entry
entry_from first = entry_by first (next_word first) (next_word (next_word first))

unfoldable pub entry_of : List ℕ → Entry
entry_of line = entry_from (past Word (up_to Comment line))
