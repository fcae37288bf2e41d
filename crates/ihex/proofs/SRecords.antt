-- The claims of `specs/SRecords.antt`: what is returned for a line as it is judged, in numbers. A written line is in the format, so it is read again.
-- Assumes nothing.
use Prim.Native.Nat.{ℕ, ◌+◌, ◌≤◌, ◌<◌}
use mathlib.Core.Path.{◌≡◌, refl, sym, ◌∙◌, ap, subst}
use mathlib.Core.Option.{Option, none, some}
use mathlib.Core.List.{List, []}
use native.Mathlib.Omega.{arith}
use lib.ListN.{length, take, drop}
use borrow.Author.Tests.{le-leb, lt-leb, lt-ltb, le-ltb}
use Rattle.digits.specs.Reading.{named}
use Rattle.digits.proofs.Tests.{split}
use Rattle.digits.proofs.Parts.{part_length}
use Rattle.digits.proofs.Pasting.{pasted_part}
use Rattle.record.specs.Refusals.{Refusal, refusal, contains_invalid_characters}
use Rattle.record.specs.Line.{Said, says, wrong}
use Rattle.writer.proofs.Answers.{stands_there}
use Rattle.writer.proofs.Objects.{unless_chars}
use Rattle.srec.specs.declared.SType.{SType}
use Rattle.srec.specs.declared.SRecord.{SRecord}
use Rattle.srec.specs.Line.{judge}
use Rattle.srec.specs.Format.{Format}
use Rattle.srec.specs.Faults.{FirstOffender, no_digit}
use Rattle.srec.specs.Written.{InCapitals}
use Rattle.srec.specs.Record.{digit_of}
use Rattle.srec.specs.Answer.{answered, poured}
use Rattle.srec.specs.Writer.{refusal_for, line, line_text}
use Rattle.srec.proofs.Naming.{named_small}
use Rattle.srec.proofs.Standing.{fault_few}
use Rattle.srec.proofs.Claims.{admits, refuses, names_the_offender}
use Rattle.srec.proofs.Writing.{said_is_bounded}
use Rattle.srec.proofs.Measuring.{fine}
use Rattle.srec.proofs.RoundTrip.{writes_line}
use Rattle.entries.specs.Entry.{type_named}
use Rattle.entries.proofs.Types.{digit_again}
use Rattle.codes.specs.Codes.{OK, value, refused_with}
use Rattle.ihex.specs.Entries.{ReadLine, WroteText, IhexReadSrecord}
use Rattle.ihex.specs.SRecords.{Gives, WhyRead, a_record, no_room, no_record, IhexReadSrecordReasons, INVALID_CHARACTERS, IhexReadSrecordOffender, IhexReadSrecordKeeps, IhexReadSrecordRoom, IhexToSrecordStringLine, IhexSrecordReadsBack}
use Rattle.ihex.proofs.Writes.{as_written, srecord_text_by}

-- ---- the record reader

module _ (line pool : List ℕ) (at r a b c : ℕ) (pool' : List ℕ) where
  -- what is said is returned, and its data put into the pool
  abbrev Returns : Said → Type 0
  Returns s = ReadLine (answered s (length pool) at) (poured s pool at) r a b c pool'

  module _ (kind address : ℕ) (payload : List ℕ) (said : judge line ≡ says kind address payload) where
    formal : Format line kind address payload
    formal = (admits line kind address payload).0 said

    gives_data : kind < 4 → at + length payload ≤ length pool
        → Returns (says kind address payload) → Gives kind address payload pool at r a b c pool'
    unfolding answered poured
    gives_data k h x =
        let y = rw (lt-ltb kind 4 k, le-leb (at + length payload) (length pool) h) at x in
        record { type_is = y.answer.code_is; address_is = y.answer.a_is; length_is = y.answer.c_is; with_data = λ j. (y.answer.b_is, y.left); without = λ j. absurd (omega arith) }

    gives_bare : 4 ≤ kind → Returns (says kind address payload) → Gives kind address payload pool at r a b c pool'
    unfolding answered poured
    gives_bare k x =
        let y = rw (le-ltb kind 4 k) at x in
        let z : payload ≡ [] = (said_is_bounded line kind address payload said).bare k in
        record { type_is = y.answer.code_is; address_is = y.answer.a_is; length_is = y.answer.c_is ∙ sym (ap length z); with_data = λ j. absurd (omega arith); without = λ j. (y.answer.b_is, y.left) }

    why_full : kind < 4 → length pool < at + length payload
        → Returns (says kind address payload) → WhyRead line pool at r a b c pool'
    unfolding answered poured
    why_full k h x = let y = rw (lt-ltb kind 4 k, lt-leb (at + length payload) (length pool) h) at x in no_room kind address payload formal k h y.answer y.left

    why_said : Returns (says kind address payload) → WhyRead line pool at r a b c pool'
    why_said x =
        split 4 kind
        (λ k. a_record kind address payload formal (λ j. absurd (omega arith)) (gives_bare k x))
        (λ k. split (at + length payload) (length pool) (λ h. a_record kind address payload formal (λ j. h) (gives_data k h x)) (λ h. why_full k h x))

    -- with room
    gives_it : (kind < 4 → at + length payload ≤ length pool) → IhexReadSrecord line pool at r a b c pool' → Gives kind address payload pool at r a b c pool'
    gives_it room x =
        let y = subst Returns said x in
        split 4 kind (λ k. gives_bare k y) (λ k. gives_data k (room k) y)

    -- and the data lies there
    held : (kind < 4 → at + length payload ≤ length pool) → Gives kind address payload pool at r a b c pool' → take c (drop b pool') ≡ payload
    held room g =
        split 4 kind
        (λ k. let z : payload ≡ [] = (said_is_bounded line kind address payload said).bare k in rw (g.length_is, z))
        (λ k. let (b_is, left) = g.with_data k in rw (g.length_is, b_is, left) (pasted_part pool at payload (room k)))

    as_data : kind < 4 → at + length payload ≤ length pool → Gives kind address payload pool at r a b c pool'
        → Returns (says kind address payload)
    unfolding answered poured
    as_data k h g =
        let (b_is, left) = g.with_data k in
        rw (lt-ltb kind 4 k, le-leb (at + length payload) (length pool) h)
        (record { answer = record { code_is = g.type_is; a_is = g.address_is; b_is = b_is; c_is = g.length_is }; left = left })

    as_bare : 4 ≤ kind → Gives kind address payload pool at r a b c pool'
        → Returns (says kind address payload)
    unfolding answered poured
    as_bare k g =
        let (b_is, left) = g.without k in
        let z : payload ≡ [] = (said_is_bounded line kind address payload said).bare k in
        rw (le-ltb kind 4 k)
        (record { answer = record { code_is = g.type_is; a_is = g.address_is; b_is = b_is; c_is = g.length_is ∙ ap length z }; left = left })

  why : (s : Said) → judge line ≡ s → Returns s → WhyRead line pool at r a b c pool'
  unfolding answered poured
  why (says kind address payload) e x = why_said kind address payload e x
  why (wrong f) e x = no_record f ((refuses line f).0 e) x.answer x.left

  -- what the line says, put in its place
  by_said : (s : Said) → judge line ≡ s → Returns s → IhexReadSrecord line pool at r a b c pool'
  by_said s e x = rw e x

  because : WhyRead line pool at r a b c pool' → IhexReadSrecord line pool at r a b c pool'
  unfolding answered poured
  because (a_record kind address payload f room g) =
      let e = (admits line kind address payload).1 f in
      by_said (says kind address payload) e (split 4 kind (λ k. as_bare kind address payload e k g) (λ k. as_data kind address payload e k (room k) g))
  because (no_room kind address payload f k h n l) =
      by_said (says kind address payload) ((admits line kind address payload).1 f) (rw (lt-ltb kind 4 k, lt-leb (at + length payload) (length pool) h) (record { answer = n; left = l }))
  because (no_record f h n l) = by_said (wrong f) ((refuses line f).1 h) (record { answer = n; left = l })

  -- the type is a digit
  small : (kind address : ℕ) (payload : List ℕ) → Format line kind address payload → kind < 10
  small kind address payload f = named_small kind (said_is_bounded line kind address payload ((admits line kind address payload).1 f)).named

pub ihex_read_srecord_reasons : IhexReadSrecordReasons
ihex_read_srecord_reasons line pool at r a b c pool' = (why line pool at r a b c pool' (judge line) refl, because line pool at r a b c pool')

pub ihex_read_srecord_offender : IhexReadSrecordOffender
ihex_read_srecord_offender line pool at r a b c pool' x = (go ((ihex_read_srecord_reasons line pool at r a b c pool').0 x), back)
  where
    go : WhyRead line pool at r a b c pool' → r ≡ INVALID_CHARACTERS → (place : ℕ) × FirstOffender line place × (a ≡ named place)
    go (a_record kind address payload f room g) h = absurd (omega (arith, g.type_is, small line pool at r a b c pool' kind address payload f))
    go (no_room kind address payload f k l n e) h = absurd (omega (arith, n.code_is))
    go (no_record (refusal number values) f n e) h =
        let two : number ≡ 2 = omega (arith, n.code_is) in
        let (place, first, q) = (names_the_offender line (refusal number values)).0 ((refuses line (refusal number values)).1 f, two) in
        (place, first, n.a_is ∙ ap (λ (w : Refusal). value (refused_with w) 0) q)

    back : (place : ℕ) × FirstOffender line place × (a ≡ named place) → r ≡ INVALID_CHARACTERS
    back (place, first, q) =
        let told : IhexReadSrecord line pool at INVALID_CHARACTERS (named place) 0 0 pool =
        because line pool at INVALID_CHARACTERS (named place) 0 0 pool
        (no_record (contains_invalid_characters (named place)) (no_digit place first) (record { code_is = refl; a_is = refl; b_is = refl; c_is = refl }) refl) in
        x.answer.code_is ∙ sym told.answer.code_is

pub ihex_read_srecord_keeps : IhexReadSrecordKeeps
ihex_read_srecord_keeps line pool at r a b c pool' x h = go ((ihex_read_srecord_reasons line pool at r a b c pool').0 x)
  where
    go : WhyRead line pool at r a b c pool' → pool' ≡ pool
    go (a_record kind address payload f room g) = (g.without (omega (arith, g.type_is))).1
    go (no_room kind address payload f k l n e) = e
    go (no_record f w n e) = e

pub ihex_read_srecord_room : IhexReadSrecordRoom
ihex_read_srecord_room line pool at r a b c pool' room x h = go ((ihex_read_srecord_reasons line pool at r a b c pool').0 x)
  where
    go : WhyRead line pool at r a b c pool' → ⊥
    go (a_record kind address payload f fits g) = omega (arith, g.type_is, small line pool at r a b c pool' kind address payload f)
    go (no_room kind address payload f k l n e) = omega (arith, (said_is_bounded line kind address payload ((admits line kind address payload).1 f)).most)
    go (no_record (refusal number values) f n e) = omega (arith, n.code_is, fault_few f)

-- ---- a written line

pub ihex_to_srecord_string_line : IhexToSrecordStringLine
ihex_to_srecord_string_line kind address at len pool out n out' h w = go (type_named kind) refl w
  where
    go : (o : Option SType) → type_named kind ≡ o → WroteText (srecord_text_by address at len pool o) out OK n out'
        → Format (take n out') kind address (take len (drop at pool)) × InCapitals (take n out') × (length (take len (drop at pool)) ≡ len)
    go none e w = absurd (omega (arith, w.code_is))
    go (some t) e w =
        let x : SRecord = record { kind = t; address = address; at = at; len = len } in
        let wrote = as_written (line_text x pool) out n out' w in
        let faultless = (unless_chars (refusal_for x (length pool)) (line x pool) (take n out') (stands_there (line_text x pool) out n out' wrote).0).0 in
        let l = writes_line x pool out n out' h wrote in (
          subst (λ (k : ℕ). Format (take n out') k address (take len (drop at pool))) (digit_again kind t e) l.formal,
          l.capitals,
          part_length pool at len (fine (digit_of t) address at len (length pool) faultless).inside,
        )

pub ihex_srecord_reads_back : IhexSrecordReadsBack
ihex_srecord_reads_back kind address at len pool out n out' h w pool₂ at₂ r a b c pool₂' room y =
    let (f, capitals, l) = ihex_to_srecord_string_line kind address at len pool out n out' h w in
    let line : List ℕ = take n out' in
    let payload : List ℕ = take len (drop at pool) in
    let said = (admits line kind address payload).1 f in
    let fits : kind < 4 → at₂ + length payload ≤ length pool₂ = λ k. omega (arith, room k) in
    let g = gives_it line pool₂ at₂ r a b c pool₂' kind address payload said fits y in
    (g, g.length_is ∙ l, held line pool₂ at₂ r a b c pool₂' kind address payload said fits g)
