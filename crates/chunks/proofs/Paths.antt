-- The ways through `fresh` and `older`, over plain values.
-- Assumes nothing.
use Rattle.std.proofs.Common.{◌≡◌, ℕ, zero, suc, ◌+◌, ◌-◌, ◌<◌, ◌≤◌, Bool, true, false, eqb, List, [], ◌∷◌, length, get_or, take, drop, sym, refl, ap, ◌∙◌, ap₂, add-one, arith, length-drop, drop_of_length-le, length-take-le, drop-cons, eqb-true}
use mathlib.Core.Option.{Option, none, some}
use borrow.Author.Tests.{eqb-false}
use Rattle.chunks.specs.declared.Chunks.{Chunks}
use Rattle.chunks.specs.declared.LineReply.TheVariants.{InChunk, InCarry, UsedUp}
use Rattle.chunks.specs.declared.LineStep.{LineStep}
use Rattle.chunks.specs.Begun.{Begun, nothing, is_empty, counted, Sought, ended, unended, seek}
use Rattle.chunks.specs.Next.{number_behind, past_line, kept_in, begun, in_carry}
use Rattle.chunks.specs.Line.{line_place, found_line, of_found, Finds}
use Rattle.chunks.specs.Helpers.{held, UpToLF, seek_at, WholeLine, OpenLine}
use Rattle.chunks.proofs.InPlace.{settled, at_LF}

-- ---- what was found

module _ (chunk : List ℕ) (position : ℕ) (b : Begun) (position' : ℕ) (b' : Begun) (start : Option (List ℕ)) (empties : ℕ) (p : UpToLF chunk position b position' b') where
  passed_feed : (position' ≡ length chunk → ⊥) → seek start empties b (drop position chunk) ≡ settled start empties b'.kept (drop (position' + 1) chunk)
  passed_feed h =
      let l : position' < length chunk = omega (arith, p.inside) in
      p.goes_on start empties
      ∙ ap (seek start empties b') (drop-cons chunk position' 0 l)
      ∙ at_LF start empties b' (get_or chunk position' 0) (drop (suc position') chunk) (p.feed l)
      ∙ rw (add-one position')

  passed_all : position' ≡ length chunk → seek start empties b (drop position chunk) ≡ unended empties b'
  unfolding seek
  passed_all h =
      let e : drop position' chunk ≡ [] = drop_of_length-le chunk {i = position'} (omega arith) in
      p.goes_on start empties ∙ ap (seek start empties b') e

-- ---- used up

-- a state with a line of so many bytes begun
abbrev pub open_state : Chunks → (empties used skipped : ℕ) (cr : Bool) → Chunks
open_state s empties used skipped cr =
    record { position = 0; line = s.line; empties = empties; used = used; skipped = skipped; cr = cr; finished = false; options = s.options }

used_up_found : (s : Chunks) (chunk : List ℕ) (f : Sought) (empties n k : ℕ) (w : Bool) (r : LineStep) (carry' : List ℕ)
    → f ≡ unended empties (held carry' n k w) → n ≤ length carry' → r ≡ record { reply = UsedUp; state = open_state s empties n k w } → Finds (of_found s chunk f) chunk r carry'
unfolding of_found
used_up_found s chunk f empties n k w r carry' e h l =
    let size : length (take n carry') ≡ n = length-take-le n carry' h in
    rw (e, l) (record { answer = refl; state = rw size; line = refl; inside = tt; carry = rw size })

pub older_open : (s : Chunks) (chunk : List ℕ) (position : ℕ) (carry : List ℕ) (position' n k : ℕ) (w : Bool) (r : LineStep) (carry' : List ℕ)
    → UpToLF chunk position (begun s carry) position' (held carry' n k w) → position' ≡ length chunk → n ≤ length carry' → r ≡ record { reply = UsedUp; state = open_state s s.empties n k w }
    → Finds (of_found s chunk (seek none s.empties (begun s carry) (drop position chunk))) chunk r carry'
older_open s chunk position carry position' n k w r carry' p e h l =
    used_up_found s chunk (seek none s.empties (begun s carry) (drop position chunk)) s.empties n k w r carry'
    (passed_all chunk position (begun s carry) position' (held carry' n k w) none s.empties p e) h l

pub fresh_open : (s : Chunks) (chunk : List ℕ) (position empties from empties' : ℕ) (carry : List ℕ) (position' n k : ℕ) (w : Bool) (r : LineStep) (carry' : List ℕ)
    → OpenLine chunk position empties from empties' → UpToLF chunk from (held carry 0 0 false) position' (held carry' n k w) → n ≤ length carry'
    → r ≡ record { reply = UsedUp; state = open_state s empties' n k w } → Finds (of_found s chunk (seek_at chunk position empties)) chunk r carry'
fresh_open s chunk position empties from empties' carry position' n k w r carry' o p h l =
    used_up_found s chunk (seek_at chunk position empties) empties' n k w r carry'
    (o.goes_on ∙ passed_all chunk from nothing position' (held carry' n k w) (some (drop from chunk)) empties' p (all (eqb position' (length chunk)) refl)) h l
  where
    all : (t : Bool) → eqb position' (length chunk) ≡ t → position' ≡ length chunk
    all true e = eqb-true position' (length chunk) e
    all false e =
        let l : position' < length chunk = omega (arith, p.inside, eqb-false position' (length chunk) e) in
        absurd (o.no_feed position' p.from l (p.feed l))

-- ---- a line in the chunk

pub fresh_line : (s : Chunks) (chunk : List ℕ) (position empties from len next empties' : ℕ) (r : LineStep) (carry' : List ℕ) → WholeLine chunk position empties from len next empties'
    → r ≡ record { reply = InChunk from len; state = past_line s next (number_behind s empties') false } → Finds (of_found s chunk (seek_at chunk position empties)) chunk r carry'
unfolding of_found found_line line_place in_carry
fresh_line s chunk position empties from len next empties' r carry' c l =
    let e : length chunk - length (drop next chunk) ≡ next = omega (arith, length-drop next chunk, c.beyond) in
    let f : length chunk - length (drop from chunk) ≡ from = omega (arith, length-drop from chunk, c.inside) in
    rw (c.line, l, e) (record { answer = ap₂ InChunk (sym f) c.size; state = refl; line = refl; inside = c.inside; carry = refl })

-- ---- an older line

some_ended : (start : Option (List ℕ)) (empties n k : ℕ) (carry rest : List ℕ) → (n ≡ 0 → ⊥) → n ≤ length carry
    → settled start empties (kept_in carry n k) rest ≡ ended start empties (kept_in carry n k) rest
unfolding settled is_empty
some_ended start empties zero k carry rest z h = absurd (z refl)
some_ended start empties (suc n) k [] rest z h = absurd (omega arith)
some_ended start empties (suc n) k (c ∷ carry) rest z h = refl

module _ (s : Chunks) (chunk : List ℕ) (position : ℕ) (carry : List ℕ) (position' n k : ℕ) (w : Bool) (carry' : List ℕ)
    (p : UpToLF chunk position (begun s carry) position' (held carry' n k w)) (ne : position' ≡ length chunk → ⊥) where
  pub older_line : (r : LineStep) → (n ≡ 0 → ⊥) → n ≤ 522 → n ≤ length carry'
      → r ≡ record { reply = InCarry n k; state = past_line s (position' + 1) (number_behind s s.empties) false }
      → Finds (of_found s chunk (seek none s.empties (begun s carry) (drop position chunk))) chunk r carry'
  unfolding of_found found_line line_place in_carry
  older_line r z few hn l =
      let size : length (take n carry') ≡ n = length-take-le n carry' hn in
      let e : length chunk - length (drop (position' + 1) chunk) ≡ position' + 1 = omega (arith, length-drop (position' + 1) chunk, p.inside) in
      rw (passed_feed chunk position (begun s carry) position' (held carry' n k w) none s.empties p ne ∙ some_ended none s.empties n k carry' (drop (position' + 1) chunk) z hn, l, e)
      (record { answer = ap (λ (x : ℕ). InCarry x k) (sym size); state = refl; line = refl; inside = (few, hn); carry = rw size })

  -- an empty line ended: the next one begins in the chunk
  ended_empty : n ≡ 0 → seek none s.empties (begun s carry) (drop position chunk) ≡ seek_at chunk (position' + 1) (counted s.empties)
  unfolding settled is_empty
  ended_empty z = passed_feed chunk position (begun s carry) position' (held carry' n k w) none s.empties p ne ∙ rw z

  pub older_empty : (empties : ℕ) (r : LineStep) (carry'' : List ℕ) → n ≡ 0 → empties ≡ counted s.empties
      → Finds (of_found s chunk (seek_at chunk (position' + 1) empties)) chunk r carry''
      → Finds (of_found s chunk (seek none s.empties (begun s carry) (drop position chunk))) chunk r carry''
  older_empty empties r carry'' z e m = rw (ended_empty z ∙ ap (seek_at chunk (position' + 1)) (sym e)) m
