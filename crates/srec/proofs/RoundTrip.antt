-- What the calls leave: a written line says the record again, a refusal changes nothing, and what the reader answers names the offender.
-- Assumes nothing.
use Rattle.std.proofs.Common.{◌≡◌, ℕ, ◌+◌, ◌<◌, ◌≤◌, Bool, true, false, List, [], ◌∷◌, length, take, drop, sym, refl, ap, ◌∙◌, subst, arith, le-ltb, lt-ltb, ne_eqb, eqb-true, le-leb}
use mathlib.Core.Option.{none}
use Rattle.digits.specs.Common.{Every, Byte}
use Rattle.std.specs.Prelude.{if◌then◌else◌}
use Rattle.digits.specs.Reading.{named}
use Rattle.digits.proofs.Tests.{split}
use Rattle.digits.proofs.Parts.{part_length, none_left, every_take, every_drop}
use Rattle.digits.proofs.Pasting.{pasted_part}
use Rattle.record.specs.Refusals.{Refusal, number_of, contains_invalid_characters, pool_full}
use Rattle.record.specs.Line.{Said, says, wrong}
use Rattle.reader.specs.Told.{gives, refuses, refusal_of}
use Rattle.reader.specs.Answer.{fits_pool}
use Rattle.reader.specs.Text.{is_full}
use Rattle.reader.specs.declared.ReaderError.{ReaderError}
use Rattle.reader.specs.declared.ReaderError.TheVariants.{ContainsInvalidCharacters}
use Rattle.writer.proofs.Answers as text
use Rattle.writer.proofs.Objects.{unless_chars}
use Rattle.srec.specs.declared.SType.{SType}
use Rattle.srec.specs.declared.SRecord.{SRecord}
use Rattle.srec.specs.Aliases.{SAnswer}
use Rattle.srec.specs.Types.{holds_data}
use Rattle.srec.specs.Line.{judge}
use Rattle.srec.specs.Faults.{FirstOffender}
use Rattle.srec.specs.Written.{Writable}
use Rattle.srec.specs.Record.{digit_of, numbers_of, data_of}
use Rattle.srec.specs.Answer.{told_sanswer, Reads, ReadSRecord, answered, poured}
use Rattle.srec.specs.Writer.{swriter_refusal, refusal_for, line, line_text, ToSRecordString}
use Rattle.srec.specs.Claims.{Bounds, Heard, AnswersTheOffender, NeverFull, ReadsAtStart, RefusalChangesNothing, RestUntouched, WritesLine, OneLine, LineInjective, LinePlain, RoundTrip, ReadsWhatWasWritten}
use Rattle.srec.proofs.Naming.{width_few}
use Rattle.srec.proofs.Standing.{Stands, stands, fault_few}
use Rattle.srec.proofs.Writing.{said_is_writable, said_is_bounded, written_in_format, written_in_capitals, only_in_capitals, written_plain, reads_back}
use Rattle.srec.proofs.Claims.{names_the_offender}
use Rattle.srec.proofs.Measuring.{digit_named, fine}
use Rattle.srec.proofs.Unique.{same_type, told_apart}
use Rattle.std.specs.Prelude.{Err, Ok}

-- ---- the reader

-- what is returned as refusal 2 is said so: for a record the reader returns the record, or PoolFull
said_so : (said : Said) (r : Refusal) (n at : ℕ) → number_of r ≡ 2 → refuses r ≡ answered said n at → said ≡ wrong r
unfolding answered
said_so (wrong w) r n at two e = ap wrong (sym cc)
said_so (says kind address payload) r n at two e = absurd (go (holds_data kind) (fits_pool n at payload) e)
  where
    go : (b c : Bool) → refuses r ≡ (if b then (if c then gives kind (address ∷ at ∷ length payload ∷ []) else refuses pool_full) else gives kind (address ∷ 0 ∷ 0 ∷ [])) → ⊥
    go true true e = let z : ◌≡◌ {A = ℕ} 0 1 = cc in omega arith
    go true false e = let is : r ≡ pool_full = cc in omega (arith, ap number_of is)
    go false c e = let z : ◌≡◌ {A = ℕ} 0 1 = cc in omega arith

pub answers_the_offender : AnswersTheOffender
unfolding answered poured
answers_the_offender line pool at p pool' = (there, back)
  where
    there : ReadSRecord line pool at (Err (ContainsInvalidCharacters p)) pool' → (place : ℕ) × FirstOffender line place × (p ≡ named place) × (pool' ≡ pool)
    there x =
        let said : judge line ≡ wrong (contains_invalid_characters p) = said_so (judge line) (contains_invalid_characters p) (length pool) at refl x.answer in
        let (place, f, e) = (names_the_offender line (contains_invalid_characters p)).0 (said, refl) in
        (place, f, cc, x.left ∙ ap (λ (s : Said). poured s pool at) said)

    back : (place : ℕ) × FirstOffender line place × (p ≡ named place) × (pool' ≡ pool) → ReadSRecord line pool at (Err (ContainsInvalidCharacters p)) pool'
    back (place, f, e, k) =
        let said : judge line ≡ wrong (contains_invalid_characters p) = ((names_the_offender line (contains_invalid_characters p)).1 (place, f, ap contains_invalid_characters e)).0 in
        record { answer = rw said; left = k ∙ rw said }

pub never_full : NeverFull
unfolding is_full answered
never_full line n at r = go (judge line) refl
  where
    with_room : (b : Bool) (kind address : ℕ) (payload : List ℕ) → fits_pool n at payload ≡ true
        → is_full (if b then (if fits_pool n at payload then gives kind (address ∷ at ∷ length payload ∷ []) else refuses pool_full) else gives kind (address ∷ 0 ∷ 0 ∷ [])) ≡ false
    with_room true kind address payload e = rw e
    with_room false kind address payload e = refl

    go : (said : Said) → judge line ≡ said → is_full (answered said n at) ≡ false
    go (says kind address payload) e =
        let w = said_is_writable line kind address payload e in
        let few = width_few kind in
        with_room (holds_data kind) kind address payload (le-leb (at + length payload) n (omega (arith, w.most)))
    go (wrong w) e = ne_eqb (number_of w) 10 (λ q. omega (arith, fault_few (subst (Stands line) e (stands line))))

-- an answer, from what it tells
told_gives : (r : SAnswer) (kind : ℕ) (numbers : List ℕ) → told_sanswer r ≡ gives kind numbers → (x : SRecord) × (r ≡ Ok x) × (digit_of x.kind ≡ kind) × (numbers_of x ≡ numbers)
told_gives (Ok x) kind numbers e = (x, refl, cc, cc)
told_gives (Err f) kind numbers e = let z : ◌≡◌ {A = ℕ} 0 1 = cc in absurd (omega arith)

told_refuses : (r : SAnswer) (f : Refusal) → told_sanswer r ≡ refuses f → (e : ReaderError) × (r ≡ Err e) × (refusal_of e ≡ f)
told_refuses (Ok x) f e = let z : ◌≡◌ {A = ℕ} 0 1 = cc in absurd (omega arith)
told_refuses (Err w) f e = (w, refl, cc)

module _ (kind address : ℕ) (payload pool : List ℕ) (r : SAnswer) (pool' : List ℕ) (room : 252 ≤ length pool) (b : Bounds kind address payload) where
  heard_data : kind < 4 → Reads (says kind address payload) pool 0 r pool' → Heard (says kind address payload) pool r pool'
  unfolding answered poured
  heard_data k x =
      let e = lt-ltb kind 4 k in
      let f = le-leb (0 + length payload) (length pool) (omega (arith, b.most)) in
      let (y, is, d, ns) = told_gives r kind (address ∷ 0 ∷ length payload ∷ []) (rw (e, f) at x.answer) in
      (y, is, d, cc, cc, cc, ap (take (length payload)) (rw (e, f) at x.left) ∙ pasted_part pool 0 payload (omega (arith, b.most)))

  heard_bare : 4 ≤ kind → Reads (says kind address payload) pool 0 r pool' → Heard (says kind address payload) pool r pool'
  unfolding answered poured
  heard_bare k x =
      let e = le-ltb kind 4 k in
      let (y, is, d, ns) = told_gives r kind (address ∷ 0 ∷ 0 ∷ []) (rw e at x.answer) in
      let none_there : payload ≡ [] = b.bare k in
      let len : y.len ≡ 0 = cc in
      (y, is, d, cc, cc, len ∙ sym (ap length none_there), ap (λ (l : List ℕ). take (length l) pool') none_there ∙ sym none_there)

pub reads_at_start : ReadsAtStart
unfolding answered poured
reads_at_start line pool r pool' room x = go (judge line) refl x
  where
    go : (s : Said) → judge line ≡ s → Reads s pool 0 r pool' → Heard s pool r pool'
    go (says kind address payload) e x =
        let b = said_is_bounded line kind address payload e in
        split 4 kind (λ k. heard_bare kind address payload pool r pool' room b k x) (λ k. heard_data kind address payload pool r pool' room b k x)
    go (wrong f) e x = let (w, is, n) = told_refuses r f x.answer in (w, is, n, x.left)

-- ---- the writer

pub refusal_changes_nothing : RefusalChangesNothing
refusal_changes_nothing x pool out e out' w = text.unchanged (line_text x pool) out 0 (swriter_refusal e) out' w

-- a record that was written has no fault, and its line is what stands there
lined : (x : SRecord) (pool out : List ℕ) (n : ℕ) (out' : List ℕ) → ToSRecordString x pool out (Ok n) out'
    → (refusal_for x (length pool) ≡ none) × (take n out' ≡ line x pool)
lined x pool out n out' w = unless_chars (refusal_for x (length pool)) (line x pool) (take n out') (text.stands_there (line_text x pool) out n out' w).0

pub rest_untouched : RestUntouched
rest_untouched x pool out n out' w = ((lined x pool out n out' w).1, (text.rest_untouched (line_text x pool) out 0 n out' w).1)

-- a record that has no fault can be written
writable : (x : SRecord) (pool : List ℕ) → Every Byte pool → refusal_for x (length pool) ≡ none → Writable (digit_of x.kind) x.address (data_of x pool)
writable x pool h e =
    let f = fine (digit_of x.kind) x.address x.at x.len (length pool) e in
    let l = part_length pool x.at x.len f.inside in
    record {
      named = digit_named x.kind;
      sized = rw l f.fit;
      most = omega (arith, f.most);
      address_small = f.small;
      payload_bytes = every_take Byte x.len (drop x.at pool) (every_drop Byte x.at pool h);
    }

pub writes_line : WritesLine
writes_line x pool out n out' h w =
    let s = lined x pool out n out' w in
    let t = writable x pool h s.0 in
    rw s.1 (record { formal = written_in_format _ _ _ t; capitals = written_in_capitals _ _ _ t })

-- both are the line that is written
pub one_line : OneLine
one_line x pool l l' f f' =
    only_in_capitals l (digit_of x.kind) x.address (data_of x pool) f.formal f.capitals
    ∙ sym (only_in_capitals l' (digit_of x.kind) x.address (data_of x pool) f'.formal f'.capitals)

pub line_injective : LineInjective
line_injective x y pool pool' cs h h' e e' =
    let p = unless_chars (refusal_for x (length pool)) (line x pool) cs e in
    let p' = unless_chars (refusal_for y (length pool')) (line y pool') cs e' in
    let q : says (digit_of x.kind) x.address (data_of x pool) ≡ says (digit_of y.kind) y.address (data_of y pool') =
    sym (reads_back _ _ _ (writable x pool h p.0)) ∙ ap judge (sym p.1 ∙ p'.1) ∙ reads_back _ _ _ (writable y pool' h' p'.0) in
    (same_type x.kind y.kind cc, cc, cc)

pub line_plain : LinePlain
line_plain x pool = written_plain (digit_of x.kind) x.address (data_of x pool)

pub round_trip : RoundTrip
round_trip x pool out n out' h w =
    let s = lined x pool out n out' w in
    ap judge s.1 ∙ reads_back (digit_of x.kind) x.address (data_of x pool) (writable x pool h s.0)

-- ---- both

-- a record that holds data, and one that has none
module _ (t : SType) (address : ℕ) (payload pool : List ℕ) (at : ℕ) (r : SAnswer) (pool' : List ℕ) where
  read_data : digit_of t < 4 → at + length payload ≤ length pool → Reads (says (digit_of t) address payload) pool at r pool'
      → (y : SRecord) × (r ≡ Ok y) × (y.kind ≡ t) × (y.address ≡ address) × (data_of y pool' ≡ payload)
  unfolding answered poured
  read_data k h x =
      let e = lt-ltb (digit_of t) 4 k in
      let f = le-leb (at + length payload) (length pool) h in
      let y : SRecord = record { kind = t; address = address; at = at; len = length payload } in
      (y, told_apart r (Ok y) (rw (e, f) at x.answer), refl, refl, ap (λ (l : List ℕ). take (length payload) (drop at l)) (rw (e, f) at x.left) ∙ pasted_part pool at payload h)

  read_bare : 4 ≤ digit_of t → payload ≡ [] → Reads (says (digit_of t) address payload) pool at r pool'
      → (y : SRecord) × (r ≡ Ok y) × (y.kind ≡ t) × (y.address ≡ address) × (data_of y pool' ≡ payload)
  unfolding answered poured
  read_bare k z x =
      let e = le-ltb (digit_of t) 4 k in
      let y : SRecord = record { kind = t; address = address; at = 0; len = 0 } in
      (y, told_apart r (Ok y) (rw e at x.answer), refl, refl, sym z)

pub reads_what_was_written : ReadsWhatWasWritten
reads_what_was_written x pool out n out' h w pool₂ at r pool₂' room x₂ =
    let s = lined x pool out n out' w in
    let f = fine (digit_of x.kind) x.address x.at x.len (length pool) s.0 in
    let l = part_length pool x.at x.len f.inside in
    let d : List ℕ = data_of x pool in
    let said = round_trip x pool out n out' h w in
    let again : Reads (says (digit_of x.kind) x.address d) pool₂ at r pool₂' = subst (λ (y : Said). Reads y pool₂ at r pool₂') said x₂ in
    split 4 (digit_of x.kind)
    (λ k. read_bare x.kind x.address d pool₂ at r pool₂' k (none_left d (l ∙ eqb-true x.len 0 (rw (le-ltb (digit_of x.kind) 4 k) at f.fit))) again)
    (λ k. read_data x.kind x.address d pool₂ at r pool₂' k (omega arith) again)
