-- One wrong character, of the record reader: what the judge says of the changed line, answered.
-- Assumes nothing.
use Rattle.std.proofs.Common.{◌≡◌, ℕ, List, ◌∷◌, ◌++◌, length, sym, refl, ap, ◌∙◌, ap₂, subst₂, arith}
use Rattle.record.specs.Refusals.{Refusal}
use Rattle.record.specs.Line.{Said, says, wrong, judge}
use Rattle.record.specs.Record.{type_of, numbers_of}
use Rattle.record.specs.Noise.{SaysARecord, AnswerToWrong}
use Rattle.record.proofs.Noise.{one_wrong_character, answer_by}
use Rattle.reader.specs.Aliases.{Answer}
use Rattle.reader.specs.Told.{gives, refuses, told}
use Rattle.reader.specs.Answer.{ReadRecord, answered, poured}
use Rattle.reader.specs.Noise.{GivenIsSaid, ReadWith, read_with, OneWrongCharacterRead}

pub given_is_said : GivenIsSaid
given_is_said line pool at x p c = go (judge line) refl c.answer
  where
    go : (said : Said) → judge line ≡ said → gives (type_of x) (numbers_of x) ≡ answered said (length pool) at → SaysARecord line
    go (says kind address payload) e t = (kind, address, payload, e)
    go (wrong r) e t = unfold answered in let z : ◌≡◌ {A = ℕ} 0 1 = cc in absurd (omega arith)

module _ (pool : List ℕ) (at : ℕ) where
  -- what is said, read with this pool and position
  read_as : Said → ReadWith
  read_as said = read_with (answered said (length pool) at) (poured said pool at)

  reads : (line : List ℕ) {r : Answer} {p : List ℕ} → ReadRecord line pool at r p → read_as (judge line) ≡ read_with (told r) p
  unfolding read_as
  reads line l = ap₂ read_with (sym l.answer) (sym l.left)

pub one_wrong_character_read : OneWrongCharacterRead
unfolding read_as answered poured
one_wrong_character_read before c d after pool at r r' p p' n (kind, address, payload, e) l l' =
    subst₂ (λ (same a : ReadWith). AnswerToWrong (λ (f : Refusal). read_with (refuses f) pool) same (length before) c d (before ++ (d ∷ after)) a)
    (ap (read_as pool at) (sym e) ∙ reads pool at (before ++ (c ∷ after)) l) (reads pool at (before ++ (d ∷ after)) l')
    (answer_by (read_as pool at) (one_wrong_character before c d after kind address payload n e))
