-- The entry points for a text in chunks: their contract comes to the outcome, and a code says which word was told, so that what is proved
-- of outcomes holds of their calls.
-- Assumes nothing.
use Prim.Native.Nat.{ℕ, ◌<◌}
use mathlib.Core.Path.{◌≡◌, refl, sym, ◌∙◌, ap, subst}
use mathlib.Core.Logic.{◌≢◌, inl, inr}
use mathlib.Core.Bool.{Bool, true, false}
use mathlib.Core.Option
use mathlib.Core.Option.{none, some}
use mathlib.Core.List.{List, [], ◌∷◌, map}
use native.Mathlib.Omega.{arith}
use lib.Dec.{eqb, ltb}
use lib.ListN.{length, take, drop_of_length-le}
use lib.Seq.{take-nil, take-length}
use borrow.Author.Tests.{lt-leb, eqb-true, ne_eqb}
use Rattle.digits.specs.Common.{Every}
use Rattle.std.specs.Prelude.{if◌then◌else◌}
use Rattle.record.specs.Refusals.{pool_full, carry_too_small}
use Rattle.record.specs.Line.{judge}
use Rattle.digits.proofs.Tests.{split}
use Rattle.reader.specs.Told.{Told, refuses, done}
use Rattle.reader.specs.Answer.{answered, poured}
use Rattle.reader.specs.Lines.{lines}
use Rattle.chunks.specs.declared.Chunks.{Chunks}
use Rattle.chunks.specs.declared.Place.{Place}
use Rattle.chunks.specs.declared.Place.TheVariants.{Nowhere, InChunk}
use Rattle.chunks.specs.Next.{Word, tells, used_up, is_record, new_chunks, at_place, Outcome, unchanged, next_outcome, finish_outcome}
use Rattle.chunks.specs.Rows.{joined, Seen, seen_with, Heard, FedBy, Hears, numbered, showing}
use Rattle.chunks.specs.Claims.{TooSmall, Eighteen, GivesThen, OnlyDone, givens_of, nth_line, without_pools}
use Rattle.chunks.proofs.Kept.{ShownRight, every_told}
use Rattle.chunks.proofs.Calls.{next_told, finish_told, finish_place, carry_first, Keeps, full_outcome, full_then_room, finish_ends, done_stays}
use Rattle.chunks.proofs.Claims.{any_cuts_by, row_replies, row_shows, row_alike}
use Rattle.codes.specs.Codes.{USED_UP, POOL_FULL, CARRY_TOO_SMALL, value, Numbers, reading, reading_chunk}
use Rattle.codes.specs.States.{lies_of, place_of}
use Rattle.ihex.specs.Entries.{start_of}
use Rattle.ihex.specs.Calls.{Returned, in_numbers, all_in_numbers}
use Rattle.ihex.specs.Rows.{Back, ReadBack, state_back, Either, Noted, noted, Entered, IhexAnyCuts, IhexSameRow, IhexShowsTheLine, without_pool, IhexNothingElse, IhexFinishAnswers, IhexChunkKeeps, IhexEighteen, IhexCarryFirst, IhexChunkFullKeeps, IhexGivesThen, IhexChunkFullThenRoom, IhexChunkOnlyDone, IhexFinishEnds, IhexChunkDoneStays, FlagsOfFour, IhexShownNone}
use Rattle.codes.proofs.States.{state_returns, share, four_flags_read}
use Rattle.codes.proofs.Says.{word_at, Clear, ClearTold, clear_line}
use Rattle.ihex.proofs.Readings.{ihex_rows, poured_none}

pub next_clear : (s : Chunks) (chunk carry pool : List ℕ) (at : ℕ) → Clear (next_outcome s chunk carry pool at).word
unfolding word_at
next_clear s chunk carry pool at = next_told s chunk carry pool at (λ w p. Clear w) (λ h. refl) (λ h. refl) (λ line. (clear_line line (length pool) at).0) (λ h. refl)

-- `finish` never tells that the chunk is used up
pub finish_clear : (s : Chunks) (carry pool : List ℕ) (at : ℕ) → Clear (finish_outcome s carry pool at).word × ((finish_outcome s carry pool at).word ≢ used_up)
unfolding word_at
finish_clear s carry pool at =
    finish_told s carry pool at (λ w p. Clear w × (w ≢ used_up)) (λ h. refl, λ e. told_not e) (λ h. refl, λ e. told_not e) (λ line. ((clear_line line (length pool) at).0, λ e. told_not e))
  where
    told_not : {t : Told} → tells t ≢ used_up
    told_not e = let z : ◌≡◌ {A = ℕ} 0 1 = cc in omega arith

-- ---- what comes back

module _ (o : Outcome) (chunk : List ℕ) (x : Back) (carry' pool' : List ℕ) (m : ReadBack o chunk x carry' pool') where
  state_is_back : state_back x ≡ o.state
  state_is_back =
      let s = m.stands in rw (s.position_is, s.line_is, s.empties_is, s.used_is, s.skipped_is, s.flags_is) (state_returns o.state)

  pub word_back : Clear o.word → 265 < x.code → o.word ≡ word_at x.code
  word_back clear h = clear (omega (arith, m.answer.code_is)) ∙ ap word_at (sym m.answer.code_is)

  -- where nothing happened
  same_back : (w : Word) (s : Chunks) (carry pool : List ℕ) → o ≡ unchanged w s carry pool → length carry' ≡ length carry
      → (x.code ≡ (reading_chunk w).code) × (state_back x ≡ s) × (carry' ≡ carry) × (pool' ≡ pool)
  unfolding unchanged
  same_back w s carry pool e l = (
    m.answer.code_is ∙ ap (λ (y : Outcome). (reading_chunk y.word).code) e,
    state_is_back ∙ ap (λ (y : Outcome). y.state) e,
    sym (take-length carry') ∙ ap (λ (n : ℕ). take n carry') (l ∙ sym (ap (λ (y : Outcome). length y.carried) e)) ∙ m.carry ∙ ap (λ (y : Outcome). y.carried) e,
    m.left ∙ ap (λ (y : Outcome). y.pool) e,
  )

-- ---- rows

-- the contracts come to the outcome
hears : (o : Outcome) (chunk : List ℕ) (h : Heard Noted) → Clear o.word → Entered o chunk h → Hears noted o h
unfolding word_at
hears o chunk h clear x =
    let m = x.read in
    record {
      note_is =
          x.note_is
          ∙ rw (m.answer.code_is, m.answer.a_is, m.answer.b_is, m.answer.c_is, m.stands.line_is, m.left, x.shows.holds ∙ m.shows)
          (as_noted o.word clear o.pool o.state.line o.shows);
      state_is = x.state_is ∙ state_is_back o chunk x.back h.carry x.pool m;
      begins = m.carry;
    }
  where
    as_noted : (w : Word) → Clear w → (pool : List ℕ) (line : ℕ) (shown : List ℕ)
        → (if eqb (reading_chunk w).code USED_UP then none else some (record { returned = record { code = (reading_chunk w).code; a = value (reading_chunk w) 0; b = value (reading_chunk w) 1; c = value (reading_chunk w) 2; line = line; pool = pool }; shown = shown }))
        ≡ Option.map noted (seen_with w pool line shown)
    as_noted used_up clear pool line shown = refl
    as_noted (tells t) clear pool line shown = go (eqb (reading t).code USED_UP) refl
      where
        go : (b : Bool) → eqb (reading t).code USED_UP ≡ b
            → (if b then none else some (noted (record { given = record { told = t; pool = pool; line = line }; shown = shown }))) ≡ some (noted (record { given = record { told = t; pool = pool; line = line }; shown = shown }))
        go true e =
            let c : (reading t).code ≡ USED_UP = eqb-true (reading t).code USED_UP e in
            let w : tells t ≡ used_up = clear (omega arith) ∙ ap word_at c in
            let z : ◌≡◌ {A = ℕ} 0 1 = cc in absurd (omega arith)
        go false e = refl

pub ihex_any_cuts : IhexAnyCuts
ihex_any_cuts options carry chunks calls notes x =
    any_cuts_by Noted noted Entered (
      λ s chunk carry pool at h x. hears (next_outcome s chunk carry pool at) chunk h (next_clear s chunk carry pool at) x,
      λ s carry pool at h x. hears (finish_outcome s carry pool at) [] h (finish_clear s carry pool at).0 x,
    )
    options carry chunks calls notes x.big (subst (λ (s : Chunks). FedBy Entered s carry chunks calls notes) (state_returns (new_chunks options)) x.fed)

pub ihex_same_row : IhexSameRow
ihex_same_row options carry chunks calls notes returns short x c =
    ap (map (λ (x : Noted). x.returned)) (ihex_any_cuts options carry chunks calls notes x)
    ∙ as_given (showing options 0 (numbered 1 (lines (joined chunks))) calls)
    ∙ ap all_in_numbers (row_replies options (joined chunks) calls short)
    ∙ sym (ihex_rows options (joined chunks) short calls returns c)
  where
    as_given : (xs : List Seen) → map (λ (x : Noted). x.returned) (map noted xs) ≡ all_in_numbers (givens_of xs)
    as_given [] = refl
    as_given (x ∷ xs) = ap (λ (r : List Returned). in_numbers x.given ∷ r) (as_given xs)

pub ihex_shows_the_line : IhexShowsTheLine
unfolding word_at is_record
ihex_shows_the_line options carry chunks calls notes short x =
    subst (Every Right) (sym (ihex_any_cuts options carry chunks calls notes x))
    (as_shown (showing options 0 (numbered 1 (lines (joined chunks))) calls) (row_shows options (joined chunks) calls short)
    (every_told options ClearTold (λ h. refl, refl) clear_line calls 0 (numbered 1 (lines (joined chunks)))))
  where
    Right : Noted → Type 0
    Right x = x.shown ≡ (if ltb x.returned.code 6 then nth_line (joined chunks) x.returned.line else [])

    as_shown : (xs : List Seen) → Every (ShownRight options (joined chunks)) xs → Every (λ (x : Seen). ClearTold x.given.told) xs → Every Right (map noted xs)
    as_shown [] p q = tt
    as_shown (x ∷ xs) (p, ps) (q, qs) = (rw q.1 p, as_shown xs ps qs)

pub ihex_nothing_else : IhexNothingElse
ihex_nothing_else options k head carry₁ carry₂ chunks₁ chunks₂ calls₁ calls₂ notes₁ notes₂ alike t₁ t₂ stop x₁ x₂ =
    ap (map without_pool) (ihex_any_cuts options carry₁ chunks₁ calls₁ notes₁ x₁)
    ∙ bare (showing options 0 (numbered 1 (lines (joined chunks₁))) calls₁)
    ∙ ap (map noted) (row_alike options k head (joined chunks₁) (joined chunks₂) calls₁ calls₂ alike t₁ t₂ stop)
    ∙ sym (bare (showing options 0 (numbered 1 (lines (joined chunks₂))) calls₂))
    ∙ sym (ap (map without_pool) (ihex_any_cuts options carry₂ chunks₂ calls₂ notes₂ x₂))
  where
    bare : (xs : List Seen) → map without_pool (map noted xs) ≡ map noted (without_pools xs)
    bare [] = refl
    bare (x ∷ xs) = ap (λ (r : List Noted). without_pool (noted x) ∷ r) (bare xs)

-- ---- calls from any state

pub ihex_finish_answers : IhexFinishAnswers
unfolding word_at
ihex_finish_answers s carry pool at x carry' pool' m =
    let (clear, not) = finish_clear s carry pool at in (
      λ e. not (word_back (finish_outcome s carry pool at) [] x carry' pool' m clear (omega arith) ∙ ap word_at e),
      λ e. finish_place s carry pool at (λ p. lies_of p ≢ 1) (λ h. omega arith) (λ n h. omega arith) (sym m.stands.spot.lies_is ∙ e),
    )

pub ihex_chunk_keeps : IhexChunkKeeps
ihex_chunk_keeps s chunk carry pool at x carry' pool' m h = go m
  where
    line_keeps : (line : List ℕ) → (reading (answered (judge line) (length pool) at)).code ≢ 0 → poured (judge line) pool at ≡ pool
    line_keeps line = poured_none (judge line) pool at

    go : Either s chunk carry pool at x carry' pool' → pool' ≡ pool
    go (inl m) = m.left ∙ next_told s chunk carry pool at (λ w p. (reading_chunk w).code ≢ 0 → p ≡ pool) (λ k. refl) (λ k. refl) line_keeps (λ k. refl) (λ e. h (m.answer.code_is ∙ e))
    go (inr m) = m.left ∙ finish_told s carry pool at (λ w p. (reading_chunk w).code ≢ 0 → p ≡ pool) (λ k. refl) (λ k. refl) line_keeps (λ e. h (m.answer.code_is ∙ e))

pub ihex_carry_first : IhexCarryFirst
unfolding word_at
ihex_carry_first s chunk carry pool at x carry' pool' l m = go m
  where
    eighteen : (o : Outcome) (chunk₀ : List ℕ) → Eighteen s carry o pool → Clear o.word → ReadBack o chunk₀ x carry' pool' → IhexEighteen s carry pool x carry' pool'
    eighteen o chunk₀ e clear m =
        let same : TooSmall s carry → (x.code ≡ CARRY_TOO_SMALL) × (state_back x ≡ s) × (carry' ≡ carry) × (pool' ≡ pool) =
        λ h. same_back o chunk₀ x carry' pool' m (tells (refuses carry_too_small)) s carry pool (e.first h) l in
        let small : x.code ≡ CARRY_TOO_SMALL → TooSmall s carry = λ q. e.only (word_back o chunk₀ x carry' pool' m clear (omega arith) ∙ ap word_at q) in
        record { exactly = (small, λ h. (same h).0); keeps = λ q. let (c, st, k, p) = same (small q) in (st, k, p) }

    go : Either s chunk carry pool at x carry' pool' → IhexEighteen s carry pool x carry' pool'
    go (inl m) = eighteen (next_outcome s chunk carry pool at) chunk (carry_first s chunk carry pool at).0 (next_clear s chunk carry pool at) m
    go (inr m) = eighteen (finish_outcome s carry pool at) [] (carry_first s chunk carry pool at).1 (finish_clear s carry pool at).0 m

-- IHEX_POOL_FULL says the word
full_back : (o : Outcome) (chunk : List ℕ) (x : Back) (carry' pool' : List ℕ) → Clear o.word → ReadBack o chunk x carry' pool' → x.code ≡ POOL_FULL → o.word ≡ tells (refuses pool_full)
unfolding word_at
full_back o chunk x carry' pool' clear m e = word_back o chunk x carry' pool' m clear (omega arith) ∙ ap word_at e

pub ihex_chunk_full_keeps : IhexChunkFullKeeps
ihex_chunk_full_keeps s chunk carry pool at x carry' pool' m e = go m
  where
    kept : (o : Outcome) (chunk₀ : List ℕ) → Keeps s carry pool o → Clear o.word → ReadBack o chunk₀ x carry' pool'
        → (state_back x ≡ s) × (take s.used carry' ≡ take s.used carry) × (pool' ≡ pool)
    kept o chunk₀ keeps clear m =
        let (a, b, n, p) = keeps (full_back o chunk₀ x carry' pool' clear m e) in
        (state_is_back o chunk₀ x carry' pool' m ∙ a, ap (λ (k : ℕ). take k carry') (sym n) ∙ m.carry ∙ b, m.left ∙ p)

    go : Either s chunk carry pool at x carry' pool' → (state_back x ≡ s) × (take s.used carry' ≡ take s.used carry) × (pool' ≡ pool)
    go (inl m) = kept (next_outcome s chunk carry pool at) chunk (full_outcome s chunk carry pool at).0 (next_clear s chunk carry pool at) m
    go (inr m) = kept (finish_outcome s carry pool at) [] (full_outcome s chunk carry pool at).1 (finish_clear s carry pool at).0 m

gives_then : (s : Chunks) (chunk carry : List ℕ) (call : (carry pool : List ℕ) (at : ℕ) → Outcome) → GivesThen s carry call → IhexGivesThen s chunk carry call
gives_then s chunk carry call g =
    record {
      offset = g.offset;
      bytes = g.bytes;
      few = g.few;
      with_room = λ carry₂ pool₂ at₂ y carry' pool' big same fits m.
          let (w, p) = g.with_room carry₂ pool₂ at₂ big same fits in
          let n = subst (λ (v : Word). Numbers (reading_chunk v) y.code y.a y.b y.c) w m.answer in
          ((n.code_is, n.a_is, n.b_is, n.c_is), m.left ∙ p);
    }

pub ihex_chunk_full_then_room : IhexChunkFullThenRoom
ihex_chunk_full_then_room s chunk carry pool at x carry' pool' e = (
  λ m. gives_then s chunk carry (next_outcome s chunk)
      ((full_then_room s chunk carry pool at).0 (full_back (next_outcome s chunk carry pool at) chunk x carry' pool' (next_clear s chunk carry pool at) m e)),
  λ m. gives_then s [] carry (finish_outcome s)
      ((full_then_room s chunk carry pool at).1 (full_back (finish_outcome s carry pool at) [] x carry' pool' (finish_clear s carry pool at).0 m e)),
)

only_done : (s : Chunks) → OnlyDone s → IhexChunkOnlyDone s
only_done s d chunk carry pool at x carry' pool' big l (inl m) =
    same_back (next_outcome s chunk carry pool at) chunk x carry' pool' m (tells done) s carry pool (d chunk carry pool at big).0 l
only_done s d chunk carry pool at x carry' pool' big l (inr m) =
    same_back (finish_outcome s carry pool at) [] x carry' pool' m (tells done) s carry pool (d chunk carry pool at big).1 l

pub ihex_finish_ends : IhexFinishEnds
unfolding unchanged
ihex_finish_ends s carry pool at x carry' pool' m n18 n10 =
    subst IhexChunkOnlyDone (sym (state_is_back o [] x carry' pool' m))
    (only_done o.state
    (finish_ends s carry pool at
    (split 522 (length carry) (λ h. h) (λ h. absurd (fits (inl h))))
    (split s.used 522 (λ h. h) (λ h. absurd (fits (inr h))))
    (λ w. n10 (m.answer.code_is ∙ ap (λ (v : Word). (reading_chunk v).code) w))))
  where
    o : Outcome
    o = finish_outcome s carry pool at

    fits : TooSmall s carry → ⊥
    fits h = n18 (m.answer.code_is ∙ ap (λ (y : Outcome). (reading_chunk y.word).code) ((carry_first s [] carry pool at).1.first h))

pub ihex_chunk_done_stays : IhexChunkDoneStays
unfolding word_at
ihex_chunk_done_stays s chunk carry pool at x carry' pool' m e = go m
  where
    go : Either s chunk carry pool at x carry' pool' → IhexChunkOnlyDone (state_back x)
    go (inl m) =
        let o = next_outcome s chunk carry pool at in
        subst IhexChunkOnlyDone (sym (state_is_back o chunk x carry' pool' m))
        (only_done o.state (done_stays s chunk carry pool at (word_back o chunk x carry' pool' m (next_clear s chunk carry pool at) (omega arith) ∙ ap word_at e)))
    go (inr m) = ihex_finish_ends s carry pool at x carry' pool' m (λ q. omega arith) (λ q. omega arith)

-- ---- the flags

pub flags_of_four : FlagsOfFour
flags_of_four =
    record {
      others_not_read = four_flags_read;
      others_zero = λ s chunk carry pool at x carry' pool' m. go s chunk carry pool at x carry' pool' m;
    }
  where
    few : (o : Outcome) (chunk : List ℕ) (x : Back) (carry' pool' : List ℕ) → ReadBack o chunk x carry' pool' → x.flags < 16
    few o chunk x carry' pool' m =
        let t = o.state in
        omega (arith, m.stands.flags_is, share t.options.stop_after_first_error 1, share t.options.stop_after_eof 2, share t.finished 4, share t.cr 8)

    go : (s : Chunks) (chunk carry pool : List ℕ) (at : ℕ) (x : Back) (carry' pool' : List ℕ) → Either s chunk carry pool at x carry' pool' → x.flags < 16
    go s chunk carry pool at x carry' pool' (inl m) = few (next_outcome s chunk carry pool at) chunk x carry' pool' m
    go s chunk carry pool at x carry' pool' (inr m) = few (finish_outcome s carry pool at) [] x carry' pool' m

-- ---- the line at a place

pub ihex_shown_none : IhexShownNone
ihex_shown_none lies from len chunk carry start r x (inl (n₁, n₂)) =
    let p : place_of lies from len ≡ Nowhere = rw (ne_eqb lies 1 n₁, ne_eqb lies 2 n₂) in
    (x.start_is ∙ ap (λ (p : Place). start_of p chunk) p, x.len_is ∙ ap (λ (p : Place). length (at_place p chunk carry)) p)
ihex_shown_none lies from len chunk carry start r x (inr (e, h)) =
    let p : place_of lies from len ≡ InChunk from len = rw e in (
      x.start_is ∙ ap (λ (p : Place). start_of p chunk) p ∙ rw (lt-leb from (length chunk) h),
      x.len_is ∙ ap (λ (p : Place). length (at_place p chunk carry)) p ∙ rw (drop_of_length-le chunk {i = from} (omega arith), take-nil len),
    )
