-- The claims of `specs/Readings.antt`: the text reader's own, carried over by the row of calls, and what the code of an answer says of it.
-- Assumes nothing.
use Prim.Native.Nat.{ℕ, ◌+◌}
use mathlib.Core.Path.{◌≡◌, refl, sym, ◌∙◌, ap, subst}
use mathlib.Core.Logic.{◌≢◌}
use mathlib.Core.Bool.{Bool, true, false}
use mathlib.Core.List.{List, [], ◌∷◌}
use native.Mathlib.Omega.{arith}
use lib.Dec.{leb}
use lib.ListN.{length}
use Rattle.digits.specs.Common.{pasted}
use Rattle.std.specs.Prelude.{if◌then◌else◌}
use Rattle.record.specs.Refusals.{pool_full}
use Rattle.record.specs.Line.{Said, says, wrong, judge}
use Rattle.record.specs.Meaning.{Meaning, data_at, end_of_file, extended_segment, start_segment, extended_linear, start_linear, meaning}
use Rattle.digits.proofs.Tests.{branch}
use Rattle.reader.specs.declared.ReaderOptions.{ReaderOptions}
use Rattle.reader.specs.declared.State.{State}
use Rattle.reader.specs.Aliases.{Reply}
use Rattle.reader.specs.Told.{Told, gives, refuses, done}
use Rattle.reader.specs.Answer.{given, kept, answered, poured}
use Rattle.reader.specs.Lines.{lines, a_line}
use Rattle.reader.specs.Row.{Numbered, on, sayings, stops, through_stop, row}
use Rattle.reader.specs.Text.{told_reply, is_full, ends_row, new_state, Outcome, of_found, outcome}
use Rattle.reader.specs.Calls.{Call, Given, NeverFull, Calls, no_more, one_more, given_for, replies}
use Rattle.reader.proofs.Reading.{full_keeps, outcome_found}
use Rattle.reader.proofs.Room.{ends_stops}
use Rattle.reader.proofs.Stays.{ways, done_stays, room_is_enough, nothing_behind}
use Rattle.reader.proofs.Texts.{rows, in_order}
use Rattle.codes.specs.Codes.{POOL_FULL, Numbers, reading}
use Rattle.codes.specs.States.{state_of, flags_of}
use Rattle.ihex.specs.Calls.{Returned, all_in_numbers}
use Rattle.ihex.specs.Readings.{FromTheBeginning, NoneFull, IhexRows, IhexInOrder, IhexRoomIsEnough, IhexNothingAfter, IhexNextAsReadRecord, IhexDoneStays, IhexFullKeeps, FlagsOfThree, IhexReadRecordKeeps, IhexNextKeeps}
use Rattle.codes.proofs.States.{text_state_returns, share, three_flags_read}
use Rattle.codes.proofs.Says.{not_full, no_full_code, done_code}
use Rattle.ihex.proofs.Calls.{reply_for, ihex_calls_as_calls}

-- ---- calls from the beginning of a text

begins : (options : ReaderOptions) → state_of 0 0 (flags_of (new_state options)) ≡ new_state options
begins options = text_state_returns (new_state options)

-- the text reader's calls of which these are the numbers
pub from_the_beginning : (options : ReaderOptions) (text : List ℕ) (calls : List Call) (returns : List Returned) → FromTheBeginning options text calls returns
    → (givens : List Given) × Calls text (new_state options) calls givens × (returns ≡ all_in_numbers givens)
from_the_beginning options text calls returns x =
    let (givens, row, e) = (ihex_calls_as_calls text 0 0 (flags_of (new_state options)) calls returns).0 x in
    (givens, subst (λ (s : State). Calls text s calls givens) (begins options) row, e)

pub ihex_rows : IhexRows
ihex_rows options text small calls returns x =
    let (givens, row, e) = from_the_beginning options text calls returns x in
    e ∙ ap all_in_numbers (rows options text small calls givens row)

never_full : (givens : List Given) → NoneFull (all_in_numbers givens) → NeverFull givens
never_full [] h = tt
never_full (g ∷ gs) (h, hs) = (not_full g.told h, never_full gs hs)

pub ihex_in_order : IhexInOrder
ihex_in_order options text small calls returns room x =
    let (givens, row, e) = from_the_beginning options text calls returns x in
    e ∙ ap all_in_numbers (in_order options text small calls givens (never_full givens (subst NoneFull e room)) row)

none_full : (text : List ℕ) (s : State) (calls : List Call) (givens : List Given) → Calls text s calls givens → NeverFull givens → NoneFull (all_in_numbers givens)
none_full text s calls givens no_more h = tt
none_full text s (call ∷ calls) givens (one_more {givens = later} r pool' meets more) (h, hs) = (no_full_code r.reply h, none_full text r.state calls later more hs)

pub ihex_room_is_enough : IhexRoomIsEnough
ihex_room_is_enough text position line flags calls returns room x =
    let (givens, row, e) = (ihex_calls_as_calls text position line flags calls returns).0 x in
    let s = state_of position line flags in
    subst NoneFull (sym e) (none_full text s calls givens row (room_is_enough text s calls givens room row))

-- what is left to read counts up to the line that stops the reader
cut_at_stop : (options : ReaderOptions) (calls : List Call) (last : ℕ) (left : List Numbered)
    → replies options last left calls ≡ replies options last (through_stop options left) calls
unfolding replies through_stop
cut_at_stop options [] last left = refl
cut_at_stop options (call ∷ calls) last [] = refl
cut_at_stop options (call ∷ calls) last (on n said ∷ left) = go (is_full (answered said (length call.pool) call.at)) refl (cut_at_stop options calls)
  where
    t : Told
    t = answered said (length call.pool) call.at

    rest : List Numbered
    rest = if stops options said then [] else through_stop options left

    stop_or_not : (b : Bool) → b ≡ stops options said → replies options n left calls ≡ replies options n (through_stop options left) calls
        → replies options n (if b then [] else left) calls ≡ replies options n (if b then [] else rest) calls
    stop_or_not true e ih = refl
    stop_or_not false e ih = rw (← e) ih

    go : (b : Bool) → is_full t ≡ b → ((last : ℕ) (left : List Numbered) → replies options last left calls ≡ replies options last (through_stop options left) calls)
        → (if b
        then record { told = t; pool = call.pool; line = last } ∷ replies options last (on n said ∷ left) calls
        else given_for (on n said) call ∷ replies options n (if ends_row options t then [] else left) calls)
        ≡ (if b
        then record { told = t; pool = call.pool; line = last } ∷ replies options last (on n said ∷ rest) calls
        else given_for (on n said) call ∷ replies options n (if ends_row options t then [] else rest) calls)
    go true f ih = ap (λ (gs : List Given). record { told = t; pool = call.pool; line = last } ∷ gs) (ih last (on n said ∷ left))
    go false f ih =
        ap (λ (gs : List Given). given_for (on n said) call ∷ gs)
        (stop_or_not (ends_row options t) (ends_stops options said (length call.pool) call.at f) (ih n left))

by_row : (options : ReaderOptions) (text : List ℕ) (calls : List Call) → replies options 0 (sayings 1 (lines text)) calls ≡ replies options 0 (row options text) calls
unfolding row
by_row options text calls = cut_at_stop options calls 0 (sayings 1 (lines text))

pub ihex_nothing_after : IhexNothingAfter
ihex_nothing_after options k text₁ text₂ head small₁ small₂ t₁ t₂ stop calls returns₁ returns₂ x₁ x₂ =
    ihex_rows options text₁ small₁ calls returns₁ x₁
    ∙ ap all_in_numbers (by_row options text₁ calls ∙ ap (λ (r : List Numbered). replies options 0 r calls) (nothing_behind options k text₁ text₂ head t₁ t₂ stop) ∙ sym (by_row options text₂ calls))
    ∙ sym (ihex_rows options text₂ small₂ calls returns₂ x₂)

-- ---- one call

module _ (s : State) (text pool : List ℕ) (at : ℕ) where
  -- PoolFull leaves the state
  full_stays : is_full (outcome s text pool at).told ≡ true → (outcome s text pool at).state ≡ s
  unfolding of_found is_full
  full_stays =
      ways s text pool at (λ o. is_full o.told ≡ true → o.state ≡ s) (λ b e. refl) (λ e. let z : ◌≡◌ {A = ℕ} 0 1 = cc in absurd (omega arith))
      (λ k line left n.
      branch (λ (o : Outcome). is_full o.told ≡ true → o.state ≡ s) (is_full (answered (judge line) (length pool) at)) _ _ (λ f e. refl)
      (λ f e. let z : true ≡ false = sym e ∙ f in let w : ◌≡◌ {A = ℕ} 0 1 = cc in absurd (omega arith)))

  full_code : (reading (outcome s text pool at).told).code ≡ POOL_FULL → is_full (outcome s text pool at).told ≡ true
  full_code e = let (r, t) = reply_for s text pool at in go (is_full (outcome s text pool at).told) refl r t
    where
      go : (b : Bool) → is_full (outcome s text pool at).told ≡ b → (r : Reply) → told_reply r ≡ (outcome s text pool at).told → b ≡ true
      go true f r t = refl
      go false f r t = absurd (no_full_code r (ap is_full t ∙ f) (ap (λ (x : Told). (reading x).code) t ∙ e))

-- what is told of a line, and left in the pool
abbrev OfLine : (line pool : List ℕ) (at : ℕ) → Outcome → Type 0
OfLine line pool at o = (o.told ≡ answered (judge line) (length pool) at) × (o.pool ≡ poured (judge line) pool at)

pub ihex_next_as_read_record : IhexNextAsReadRecord
unfolding of_found
ihex_next_as_read_record s text pool at r i l f a b c pool' x b' k line left n =
    let (t, p) = subst (OfLine line pool at) (sym (outcome_found s text pool at b' (a_line k line left) n))
    (branch (OfLine line pool at) (is_full (answered (judge line) (length pool) at)) _ _
    (λ g. (refl, sym (full_keeps (judge line) pool at g))) (λ g. (refl, refl))) in
    record { answer = subst (λ (z : Told). Numbers (reading z) r a b c) t x.answer; left = x.left ∙ p }

pub ihex_full_keeps : IhexFullKeeps
ihex_full_keeps position line flags text pool at i l f a b c pool' x =
    let s = state_of position line flags in
    let o = outcome s text pool at in
    let q : o.state ≡ s = full_stays s text pool at (full_code s text pool at (sym x.answer.code_is)) in (
      x.position_is ∙ ap (λ (y : State). y.position) q,
      x.line_is ∙ ap (λ (y : State). y.line) q,
      rw (x.position_is, x.line_is, x.flags_is) (text_state_returns o.state ∙ q),
    )

pub ihex_done_stays : IhexDoneStays
ihex_done_stays s text pool at i l f a b c pool' x text₂ pool₂ at₂ r₂ i₂ l₂ f₂ a₂ b₂ c₂ pool₂' y =
    let o = outcome s text pool at in
    let (r, t) = reply_for s text pool at in
    let told : o.told ≡ done = sym t ∙ done_code r (ap (λ (z : Told). (reading z).code) t ∙ sym x.answer.code_is) in
    let q : state_of i l f ≡ o.state = rw (x.position_is, x.line_is, x.flags_is) (text_state_returns o.state) in
    let d : outcome (state_of i l f) text₂ pool₂ at₂ ≡ record { told = done; state = o.state; pool = pool₂ } =
    ap (λ (z : State). outcome z text₂ pool₂ at₂) q ∙ done_stays s text pool at told text₂ pool₂ at₂ in (
      y.answer.code_is ∙ ap (λ (z : Outcome). (reading z.told).code) d,
      (
        y.position_is ∙ ap (λ (z : Outcome). z.state.position) d ∙ sym x.position_is,
        y.line_is ∙ ap (λ (z : Outcome). z.state.line) d ∙ sym x.line_is,
        y.flags_is ∙ ap (λ (z : Outcome). flags_of z.state) d ∙ sym x.flags_is,
      ),
      y.left ∙ ap (λ (z : Outcome). z.pool) d,
    )

-- ---- the flags

pub flags_of_three : FlagsOfThree
flags_of_three =
    record {
      others_not_read = three_flags_read;
      others_zero = λ s text pool at r i l f a b c pool' x.
          let o = (outcome s text pool at).state in
          omega (arith, x.flags_is, share o.options.stop_after_first_error 1, share o.options.stop_after_eof 2, share o.finished 4);
    }

-- ---- the pool

kept_whole : (m : Meaning) (pool : List ℕ) (at : ℕ) → (reading (given m (length pool) at)).code ≢ 0 → kept m pool at ≡ pool
unfolding given kept
kept_whole (data_at offset bytes) pool at h = go (leb (at + length bytes) (length pool)) h
  where
    go : (b : Bool) → (reading (if b then gives 0 (offset ∷ at ∷ length bytes ∷ []) else refuses pool_full)).code ≢ 0 → (if b then pasted pool at bytes else pool) ≡ pool
    go true h = absurd (h refl)
    go false h = refl
kept_whole end_of_file pool at h = refl
kept_whole (extended_segment number) pool at h = refl
kept_whole (start_segment cs ip) pool at h = refl
kept_whole (extended_linear number) pool at h = refl
kept_whole (start_linear number) pool at h = refl

pub poured_none : (said : Said) (pool : List ℕ) (at : ℕ) → (reading (answered said (length pool) at)).code ≢ 0 → poured said pool at ≡ pool
unfolding answered poured
poured_none (says kind address payload) pool at h = kept_whole (meaning kind address payload) pool at h
poured_none (wrong r) pool at h = refl

pub ihex_read_record_keeps : IhexReadRecordKeeps
ihex_read_record_keeps line pool at r a b c pool' x h = x.left ∙ poured_none (judge line) pool at (λ e. h (x.answer.code_is ∙ e))

next_keeps : (s : State) (text pool : List ℕ) (at : ℕ) → (reading (outcome s text pool at).told).code ≢ 0 → (outcome s text pool at).pool ≡ pool
unfolding of_found
next_keeps s text pool at =
    ways s text pool at (λ o. (reading o.told).code ≢ 0 → o.pool ≡ pool) (λ b h. refl) (λ h. refl)
    (λ k line left n.
    branch (λ (o : Outcome). (reading o.told).code ≢ 0 → o.pool ≡ pool) (is_full (answered (judge line) (length pool) at)) _ _
    (λ f h. refl) (λ f h. poured_none (judge line) pool at h))

pub ihex_next_keeps : IhexNextKeeps
ihex_next_keeps s text pool at r i l f a b c pool' x h = x.left ∙ next_keeps s text pool at (λ e. h (x.answer.code_is ∙ e))
