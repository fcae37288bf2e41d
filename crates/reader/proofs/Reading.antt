-- How a call moves along a text: what each answer makes of the state, and what the call gives then. The outcome is defined by the tests
-- that the code makes, so each of them, once decided, leaves the case that the code is in.
-- Assumes nothing.
use Rattle.std.proofs.Common.{◌≡◌, ℕ, ◌-◌, Bool, true, false, eqb, List, [], ◌∷◌, length, drop, sym, refl, ap, ◌∙◌, subst, ap₂, arith, length-drop}
use Rattle.digits.specs.Common.{pasted}
use Rattle.std.specs.Prelude.{if◌then◌else◌}
use Rattle.record.specs.Refusals.{number_of, pool_full}
use Rattle.record.specs.Line.{Said, says, wrong, judge}
use Rattle.record.specs.Meaning.{Meaning, data_at, end_of_file, extended_segment, start_segment, extended_linear, start_linear, meaning}
use Rattle.record.specs.declared.Record.{Record}
use Rattle.digits.proofs.Tests.{if_true, if_false}
use Rattle.reader.specs.Aliases.{Answer}
use Rattle.reader.specs.declared.ReaderError.{ReaderError}
use Rattle.reader.specs.declared.ReaderError.TheVariants.{MissingStartCode, RecordTooShort, RecordTooLong, RecordNotEvenLength, ContainsInvalidCharacters, ChecksumMismatch, PayloadLengthMismatch, UnsupportedRecordType, InvalidLengthForType, PoolFull}
use Rattle.reader.specs.declared.State.{State}
use Rattle.reader.specs.declared.Replied.{Replied}
use Rattle.reader.specs.Told.{Told, gives, refuses, done, told, refusal_of, is_pool_full}
use Rattle.reader.specs.Answer.{fits_pool, given, kept, answered, poured, ReadRecord}
use Rattle.reader.specs.Lines.{Found, a_line, no_line, next_line}
use Rattle.reader.specs.Text.{told_reply, is_full, ends_row, behind, at_end, next_number, Outcome, of_found, outcome, Meets, Next}
use Rattle.reader.specs.Helpers.{Settled, Ahead}
use Rattle.std.specs.Prelude.{Err, None, Ok, Some}

-- ---- one answer

-- PoolFull has a number of its own
pub full_by_number : (e : ReaderError) → is_pool_full e ≡ eqb (number_of (refusal_of e)) (number_of pool_full)
full_by_number MissingStartCode = refl
full_by_number RecordTooShort = refl
full_by_number RecordTooLong = refl
full_by_number RecordNotEvenLength = refl
full_by_number (ContainsInvalidCharacters place) = refl
full_by_number (ChecksumMismatch computed stated) = refl
full_by_number PayloadLengthMismatch = refl
full_by_number (UnsupportedRecordType kind) = refl
full_by_number InvalidLengthForType = refl
full_by_number PoolFull = refl

module _ (s : State) (position line : ℕ) where
  pub settle_read : (r : Record) (end : Bool) → end ≡ ends_row s.options (told (Ok r))
      → Settled s (told (Ok r)) position line (record { reply = Some (Ok r); state = behind s position line end })
  unfolding is_full
  settle_read r end f = rw f (record { answer = refl; state = refl })

  pub settle_full : (e : ReaderError) → is_pool_full e ≡ true
      → Settled s (told (Err e)) position line (record { reply = Some (Err e); state = s })
  unfolding is_full
  settle_full e n = record { answer = refl; state = rw (sym (full_by_number e) ∙ n) }

  pub settle_refused : (e : ReaderError) → is_pool_full e ≡ false
      → Settled s (told (Err e)) position line (record { reply = Some (Err e); state = behind s position line s.options.stop_after_first_error })
  unfolding is_full ends_row
  settle_refused e n = record { answer = refl; state = rw (sym (full_by_number e) ∙ n) }

-- ---- one call

-- PoolFull leaves the pool as it was
pub full_keeps : (said : Said) (pool : List ℕ) (at : ℕ) → is_full (answered said (length pool) at) ≡ true → poured said pool at ≡ pool
unfolding is_full answered poured
full_keeps (wrong r) pool at e = refl
full_keeps (says kind address payload) pool at e = go (meaning kind address payload) e
  where
    go : (m : Meaning) → is_full (given m (length pool) at) ≡ true → kept m pool at ≡ pool
    go (data_at offset bytes) e = room_or_not (fits_pool (length pool) at bytes) e
      where
        room_or_not : (b : Bool) → is_full (if b then gives 0 (offset ∷ at ∷ length bytes ∷ []) else refuses pool_full) ≡ true → (if b then pasted pool at bytes else pool) ≡ pool
        room_or_not true e = let z : ◌≡◌ {A = ℕ} 0 1 = cc in absurd (omega arith)
        room_or_not false e = refl
    go end_of_file e = refl
    go (extended_segment number) e = refl
    go (start_segment cs ip) e = refl
    go (extended_linear number) e = refl
    go (start_linear number) e = refl

module _ (s : State) (text pool : List ℕ) (at : ℕ) where
  pub outcome_finished : s.finished ≡ true → outcome s text pool at ≡ record { told = done; state = s; pool = pool }
  unfolding outcome
  outcome_finished e = if_true s.finished _ _ e

  pub outcome_found : s.finished ≡ false → (f : Found) → next_line 0 (drop s.position text) ≡ f → outcome s text pool at ≡ of_found s (length text) pool at f
  unfolding outcome
  outcome_found e f n = if_false s.finished _ _ e ∙ ap (of_found s (length text) pool at) n

  pub next_finished : s.finished ≡ true → Next s text pool at (record { reply = None; state = s }) pool
  next_finished e = subst (λ (o : Outcome). Meets o (record { reply = None; state = s }) pool) (sym (outcome_finished e)) (record { answer = refl; state = refl; left = refl })

  pub next_none : (empties : ℕ) → s.finished ≡ false → next_line 0 (drop s.position text) ≡ no_line empties
      → (s' : State) → s' ≡ at_end s → Next s text pool at (record { reply = None; state = s' }) pool
  unfolding of_found
  next_none empties e n s' q =
      subst (λ (o : Outcome). Meets o (record { reply = None; state = s' }) pool) (sym (outcome_found e (no_line empties) n)) (record { answer = refl; state = q; left = refl })

  -- a line was read and settled
  pub next_read : (cs : List ℕ) (next empties : ℕ) → s.finished ≡ false → Ahead text s.position cs next empties
      → (answer : Answer) (pool' : List ℕ) → ReadRecord cs pool at answer pool'
      → (line : ℕ) → line ≡ next_number s empties → (r : Replied) → Settled s (told answer) next line r → Next s text pool at r pool'
  unfolding of_found
  next_read cs next empties e a answer pool' given-line line ln r settled =
      let said = judge cs in
      let t = answered said (length pool) at in
      let place : length text - length (drop next text) ≡ next = omega (arith, length-drop next text, a.beyond) in
      subst (λ (o : Outcome). Meets o r pool') (sym (outcome_found e (a_line empties cs (drop next text)) a.found))
      (choose (is_full t) refl t (settled.answer ∙ given-line.answer)
      (settled.state ∙ ap (λ (x : Told). if is_full x then s else behind s next line (ends_row s.options x)) given-line.answer)
      given-line.left place ln)
    where
      choose : (b : Bool) → is_full (answered (judge cs) (length pool) at) ≡ b → (t : Told) → told_reply r.reply ≡ t
          → r.state ≡ (if b then s else behind s next line (ends_row s.options t)) → pool' ≡ poured (judge cs) pool at
          → length text - length (drop next text) ≡ next → line ≡ next_number s empties
          → Meets (if b then record { told = t; state = s; pool = pool } else record {
            told = t;
            state = behind s (length text - length (drop next text)) (next_number s empties) (ends_row s.options t);
            pool = poured (judge cs) pool at;
          }) r pool'
      choose true full t x y z place ln = record { answer = x; state = y; left = z ∙ full_keeps (judge cs) pool at full }
      choose false full t x y z place ln = record { answer = x; state = y ∙ ap₂ (λ (p l : ℕ). behind s p l (ends_row s.options t)) (sym place) ln; left = z }
