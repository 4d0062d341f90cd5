-- What the definitions are written with: tests, tables and counts over 0 .. n - 1. Assumes nothing.
use Rattle.std.specs.Prelude.{Bool, true, false, ◌&&◌, ◌||◌, List, [], ◌∷◌, ℕ, zero, suc, ◌+◌, leb, eqb}

-- the number 1 or 0 of a test
abbrev pub bit : Bool → ℕ
bit true = 1
bit false = 0

-- the test of such a number
abbrev pub one : ℕ → Bool
one n = eqb n 1

-- a test that asks b only if a holds
abbrev pub implies : Bool → Bool → Bool
implies true b = b
implies false b = true

-- n is lo to hi
abbrev pub between : ℕ → ℕ → ℕ → Bool
between lo hi n = leb lo n && leb n hi

-- a test holds at each of 0 .. n - 1; at one of them
unfoldable pub all : ℕ → (ℕ → Bool) → Bool
all zero p = true
all (suc n) p = p n && all n p

unfoldable pub any : ℕ → (ℕ → Bool) → Bool
any zero p = false
any (suc n) p = p n || any n p

-- the sum of f over 0 .. n - 1, and how many of them pass a test
unfoldable pub sum : ℕ → (ℕ → ℕ) → ℕ
sum zero f = zero
sum (suc n) f = f n + sum n f

abbrev pub count : ℕ → (ℕ → Bool) → ℕ
count n p = sum n λ k. bit (p k)

-- f 0, f 1, .. f (n - 1)
unfoldable pub table : {A : Type 0} → (ℕ → A) → ℕ → List A
table f zero = []
table f (suc n) = f 0 ∷ table (λ i. f (suc i)) n
