-- What every file of specs/ uses: a property of each element, and texts in quotes.
-- Assumes nothing.
use Rattle.std.specs.Prelude.{ℕ, ◌+◌, ◌<◌, List, [], ◌∷◌, ◌++◌, length, take, drop}
use Prim.Native.Char.{code}
use Prim.Native.String.{String}
use Rattle.std.proofs.Math.Option.{Option, none, some}

-- the first of two that there is
abbrev pub or_else : {A : Type 0} → Option A → Option A → Option A
or_else none other = other
or_else (some x) other = some x

-- each element has the property
abbrev pub Every {ℓ} : {A : Type ℓ} → (A → Type 0) → List A → Type 0
Every P [] = Unit
Every P (x ∷ xs) = P x × Every P xs

abbrev pub Byte : ℕ → Type 0
Byte b = b < 256

-- the bytes of a text in ASCII
abbrev pub text : String → List ℕ
text String.[] = []
text (String.◌∷◌ c s) = code c ∷ text s

-- a buffer with some bytes put in place of its own from a place on
abbrev pub pasted : (buffer : List ℕ) (at : ℕ) (bytes : List ℕ) → List ℕ
pasted buffer at bytes = take at buffer ++ bytes ++ drop (at + length bytes) buffer
