-- A call of `ihex_next` is a call of the text reader in numbers: the state comes back from its numbers, and every outcome is some reply's.
-- Assumes nothing.
use Prim.Native.Nat.{ℕ, ◌+◌}
use mathlib.Core.Path.{◌≡◌, refl, sym, ap, ap₂, subst}
use mathlib.Core.List.{List, [], ◌∷◌}
use lib.Dec.{leb}
use lib.ListN.{length}
use Rattle.std.specs.Prelude.{if◌then◌else◌}
use Rattle.record.specs.Refusals.{Refusal}
use Rattle.record.specs.Line.{Said, says, wrong, judge}
use Rattle.digits.specs.Reading.{named}
use Rattle.record.specs.Faults.{Fault, no_colon, no_digit, short, long, odd, sum_differs, length_differs, type_unknown, size_differs}
use Rattle.record.specs.Meaning.{Meaning, data_at, end_of_file, extended_segment, start_segment, extended_linear, start_linear, meaning}
use Rattle.record.specs.declared.Record.TheVariants.{Data, EndOfFile, ExtendedSegmentAddress, StartSegmentAddress, ExtendedLinearAddress, StartLinearAddress}
use Rattle.checksum.specs.Checksum.{negated_sum}
use Rattle.digits.proofs.Tests.{branch, both_ways}
use Rattle.record.proofs.Standing.{Stands, stands}
use Rattle.reader.specs.declared.ReaderError.{ReaderError}
use Rattle.reader.specs.declared.ReaderError.TheVariants.{MissingStartCode, RecordTooShort, RecordTooLong, RecordNotEvenLength, ContainsInvalidCharacters, ChecksumMismatch, PayloadLengthMismatch, UnsupportedRecordType, InvalidLengthForType, PoolFull}
use Rattle.reader.specs.declared.State.{State}
use Rattle.reader.specs.Aliases.{Reply}
use Rattle.reader.specs.Told.{Told, gives, refuses, refusal_of}
use Rattle.reader.specs.Answer.{given, answered}
use Rattle.reader.specs.Text.{told_reply, is_full, Outcome, of_found, outcome}
use Rattle.reader.specs.Calls.{Call, Given, Calls}
use Rattle.reader.specs.Calls as reader
use Rattle.reader.proofs.Stays.{step, ways}
use Rattle.codes.specs.Codes.{Numbers, value, reading}
use Rattle.codes.specs.States.{state_of, flags_of}
use Rattle.ihex.specs.Entries.{IhexNext}
use Rattle.ihex.specs.Calls.{Returned, in_numbers, all_in_numbers, IhexCalls, no_more, one_more, IhexCallsAsCalls}
use Rattle.codes.proofs.States.{text_state_returns}
use Rattle.std.specs.Prelude.{Err, None, Ok, Some}

-- ---- a reply for every outcome

abbrev Replies : Told → Type 0
Replies t = (r : Reply) × (told_reply r ≡ t)

error_for : {line : List ℕ} {r : Refusal} → Fault line r → (e : ReaderError) × (refusal_of e ≡ r)
error_for (no_colon h) = (MissingStartCode, refl)
error_for (no_digit place f) = (ContainsInvalidCharacters (named place), refl)
error_for (short ds s d h) = (RecordTooShort, refl)
error_for (long ds s d h) = (RecordTooLong, refl)
error_for (odd ds s d l m h) = (RecordNotEvenLength, refl)
error_for (sum_differs ds body stated s p l m h) = (ChecksumMismatch (negated_sum body) stated, refl)
error_for (length_differs len high low kind check payload s h) = (PayloadLengthMismatch, refl)
error_for (type_unknown high low kind check payload s h) = (UnsupportedRecordType kind, refl)
error_for (size_differs high low kind check payload s l h) = (InvalidLengthForType, refl)

given_for : (m : Meaning) (n at : ℕ) → Replies (given m n at)
unfolding given
given_for (data_at offset bytes) n at =
    both_ways (λ b. Replies (if b then gives 0 (offset ∷ at ∷ length bytes ∷ []) else refuses (refusal_of PoolFull))) (leb (at + length bytes) n)
    (Some (Ok (Data offset at (length bytes))), refl) (Some (Err PoolFull), refl)
given_for end_of_file n at = (Some (Ok EndOfFile), refl)
given_for (extended_segment number) n at = (Some (Ok (ExtendedSegmentAddress number)), refl)
given_for (start_segment cs ip) n at = (Some (Ok (StartSegmentAddress cs ip)), refl)
given_for (extended_linear number) n at = (Some (Ok (ExtendedLinearAddress number)), refl)
given_for (start_linear number) n at = (Some (Ok (StartLinearAddress number)), refl)

said_for : (line : List ℕ) (said : Said) → Stands line said → (n at : ℕ) → Replies (answered said n at)
unfolding answered
said_for line (says kind address payload) s n at = given_for (meaning kind address payload) n at
said_for line (wrong r) s n at = let (e, q) = error_for s in (Some (Err e), ap refuses q)

pub reply_for : (s : State) (text pool : List ℕ) (at : ℕ) → Replies (outcome s text pool at).told
unfolding of_found
reply_for s text pool at =
    ways s text pool at (λ o. Replies o.told) (λ b. (None, refl)) (None, refl)
    (λ e line left n.
    let r = said_for line (judge line) (stands line) (length pool) at in
    branch (λ (o : Outcome). Replies o.told) (is_full (answered (judge line) (length pool) at)) _ _ (λ f. r) (λ f. r))

-- ---- the calls

-- numbers of what is told are what is told, in numbers
pub as_told : (t : Told) {r a b c n line : ℕ} {pool : List ℕ} → Numbers (reading t) r a b c → n ≡ line
    → record { code = r; a = a; b = b; c = c; line = n; pool = pool } ≡ in_numbers (record { told = t; pool = pool; line = line })
as_told t x e = rw (x.code_is, x.a_is, x.b_is, x.c_is, e)

pub numbers_of : {t₁ t₂ : Told} → t₁ ≡ t₂ → let m = reading t₁ in Numbers (reading t₂) m.code (value m 0) (value m 1) (value m 2)
numbers_of e =
    record {
      code_is = ap (λ (t : Told). (reading t).code) e;
      a_is = ap (λ (t : Told). value (reading t) 0) e;
      b_is = ap (λ (t : Told). value (reading t) 1) e;
      c_is = ap (λ (t : Told). value (reading t) 2) e;
    }

by_numbers : (text : List ℕ) (position line flags : ℕ) (calls : List Call) (returns : List Returned) → IhexCalls text position line flags calls returns
    → (givens : List Given) × Calls text (state_of position line flags) calls givens × (returns ≡ all_in_numbers givens)
by_numbers text position line flags calls returns no_more = ([], reader.no_more, refl)
by_numbers text position line flags (call ∷ calls) returns (one_more {returns = later} r position' line' flags' a b c pool' x more) =
    let s = state_of position line flags in
    let o = outcome s text call.pool call.at in
    let (reply, t) = reply_for s text call.pool call.at in
    let (givens, row, e) = by_numbers text position' line' flags' calls later more in
    let q : state_of position' line' flags' ≡ o.state = rw (x.position_is, x.line_is, x.flags_is) (text_state_returns o.state) in (
      record { told = told_reply reply; pool = pool'; line = o.state.line } ∷ givens,
      reader.one_more (step reply o.state) pool' (record { answer = t; state = refl; left = x.left }) (subst (λ (s' : State). Calls text s' calls givens) q row),
      ap₂ (λ (g : Returned) (gs : List Returned). g ∷ gs) (as_told (told_reply reply) (subst (λ (t' : Told). Numbers (reading t') r a b c) (sym t) x.answer) x.line_is) e,
    )

in_their_numbers : (text : List ℕ) (s : State) (position line flags : ℕ) (calls : List Call) (givens : List Given) → state_of position line flags ≡ s
    → Calls text s calls givens → IhexCalls text position line flags calls (all_in_numbers givens)
in_their_numbers text s position line flags calls givens e reader.no_more = no_more
in_their_numbers text s position line flags (call ∷ calls) givens e (reader.one_more {givens = later} r pool' meets more) =
    let m = reading (told_reply r.reply) in
    let i = r.state.position in
    let l = r.state.line in
    let f = flags_of r.state in
    one_more m.code i l f (value m 0) (value m 1) (value m 2) pool'
    (subst (λ (x : State). IhexNext x text call.pool call.at m.code i l f (value m 0) (value m 1) (value m 2) pool') (sym e)
    (record {
      answer = numbers_of meets.answer;
      position_is = ap (λ (x : State). x.position) meets.state;
      line_is = ap (λ (x : State). x.line) meets.state;
      flags_is = ap flags_of meets.state;
      left = meets.left;
    }))
    (in_their_numbers text r.state i l f calls later (text_state_returns r.state) more)

pub ihex_calls_as_calls : IhexCallsAsCalls
ihex_calls_as_calls text position line flags calls returns = (
  by_numbers text position line flags calls returns,
  λ x. subst (λ (rs : List Returned). IhexCalls text position line flags calls rs) (sym x.2)
      (in_their_numbers text (state_of position line flags) position line flags calls x.0 refl x.1),
)
