-- What is claimed of a call from any state: each claim goes by the ways of a call.
-- Assumes nothing.
use Rattle.std.proofs.Common.{◌≡◌, ℕ, ◌+◌, ◌-◌, ◌<◌, ◌≤◌, Bool, true, false, ◌||◌, ltb, ◌≢◌, ◌⊎◌, List, [], ◌∷◌, length, take, drop, sym, refl, ap, ◌∙◌, subst, ap₂, inl, inr, arith, length-append, length-drop, length-take-le, ltb-false, ltb-true, le-leb}
use mathlib.Core.Option.{Option, none}
use lib.Seq.{take-length}
use Rattle.digits.specs.Common.{pasted}
use Rattle.std.specs.Prelude.{if◌then◌else◌}
use Rattle.record.specs.Refusals.{Refusal, number_of, pool_full, carry_too_small}
use Rattle.record.specs.Line.{Said, says, wrong, judge}
use Rattle.record.specs.Meaning.{Meaning, data_at, end_of_file, extended_segment, start_segment, extended_linear, start_linear, meaning}
use Rattle.record.specs.Written.{Sayable}
use Rattle.digits.proofs.Tests.{branch, split, if_true, if_false, or_false}
use Rattle.record.proofs.Standing.{Stands, stands, fault_few}
use Rattle.record.proofs.Writing.{said_is_sayable}
use Rattle.reader.specs.Told.{Told, gives, refuses, done}
use Rattle.reader.specs.Answer.{fits_pool, given, kept, answered, poured}
use Rattle.reader.specs.Text.{is_full, ends_row}
use Rattle.reader.proofs.Reading.{full_keeps}
use Rattle.reader.proofs.Room.{never_full}
use Rattle.reader.proofs.Stays.{never_done}
use Rattle.chunks.specs.declared.Chunks.{Chunks}
use Rattle.chunks.specs.declared.Place.{Place}
use Rattle.chunks.specs.declared.Place.TheVariants.{Nowhere, InCarry}
use Rattle.chunks.specs.Begun.{Kept, Begun, is_empty, stands_for, with_CR, Sought, ended, unended, look}
use Rattle.chunks.specs.Next.{Word, tells, used_up, is_record, begun, past_line, over, number_behind, place, in_carry, Outcome, unchanged, answered_line, of_sought, too_small, next_outcome, finish_outcome, Meets}
use Rattle.chunks.specs.Claims.{SameHeard, SameButCarry, SameButPool, CarryBlind, PoolBlind, TooSmall, CarryFirst, EighteenChangesNothing, FullKeeps, GivesThen, FullThenRoom, OnlyDone, FinishEnds, DoneStays, Moves}
use Rattle.chunks.proofs.FirstTests.{small_carry, much_used, big_enough, next_18, next_over, next_on, nothing_left, finish_18, finish_over, finish_on}
use Rattle.chunks.proofs.Rows.{Fine, fine, same_begun, sound_begun}

-- ---- answers to a line

told_number : Told → ℕ
told_number (gives kind numbers) = 0
told_number (refuses r) = number_of r
told_number done = 0

never_18 : (line : List ℕ) (n at : ℕ) → answered (judge line) n at ≢ refuses carry_too_small
unfolding answered told_number given
never_18 line n at e = go (judge line) refl (ap told_number e)
  where
    meant : (m : Meaning) → told_number (given m n at) ≢ 18
    meant (data_at offset bytes) e = by_room (fits_pool n at bytes) e
      where
        by_room : (b : Bool) → told_number (if b then gives 0 (offset ∷ at ∷ length bytes ∷ []) else refuses pool_full) ≢ 18
        by_room true e = omega arith
        by_room false e = omega arith
    meant end_of_file e = omega arith
    meant (extended_segment number) e = omega arith
    meant (start_segment cs ip) e = omega arith
    meant (extended_linear number) e = omega arith
    meant (start_linear number) e = omega arith

    go : (said : Said) → judge line ≡ said → told_number (answered said n at) ≢ 18
    go (says kind address payload) q e = meant (meaning kind address payload) e
    go (wrong r) q e = omega (arith, fault_few (subst (Stands line) q (stands line)))

-- a line that is told PoolFull is a good data record
record FullLine (line : List ℕ) (n at : ℕ) : Type 0 where
  told_full : answered (judge line) n at ≡ refuses pool_full
  offset : ℕ
  bytes : List ℕ
  few : length bytes ≤ 255
  then_told : (n' at' : ℕ) → at' + length bytes ≤ n' → answered (judge line) n' at' ≡ gives 0 (offset ∷ at' ∷ length bytes ∷ [])
  then_poured : (pool : List ℕ) (at' : ℕ) → at' + length bytes ≤ length pool → poured (judge line) pool at' ≡ pasted pool at' bytes

full_line : (line : List ℕ) (n at : ℕ) → is_full (answered (judge line) n at) ≡ true → FullLine line n at
unfolding answered poured given kept is_full
full_line line n at f = go (judge line) refl f
  where
    no : {A : Type 0} → ◌≡◌ {A = Bool} false true → A
    no e = let z : ◌≡◌ {A = ℕ} 0 1 = cc in absurd (omega arith)

    meant : (kind address : ℕ) (payload : List ℕ) → judge line ≡ says kind address payload → (m : Meaning) → meaning kind address payload ≡ m → Sayable m → is_full (given m n at) ≡ true → FullLine line n at
    meant kind address payload q (data_at o bs) e h f = by_room (fits_pool n at bs) refl
      where
        by_room : (b : Bool) → fits_pool n at bs ≡ b → FullLine line n at
        by_room true r = no (rw r at f)
        by_room false r =
            record {
              told_full = rw (q, e, r);
              offset = o;
              bytes = bs;
              few = h.1;
              then_told = λ n' at' l. rw (q, e, le-leb (at' + length bs) n' l);
              then_poured = λ pool at' l. rw (q, e, le-leb (at' + length bs) (length pool) l);
            }
    meant kind address payload q end_of_file e h f = no f
    meant kind address payload q (extended_segment number) e h f = no f
    meant kind address payload q (start_segment cs ip) e h f = no f
    meant kind address payload q (extended_linear number) e h f = no f
    meant kind address payload q (start_linear number) e h f = no f

    go : (said : Said) → judge line ≡ said → is_full (answered said n at) ≡ true → FullLine line n at
    go (says kind address payload) q f = meant kind address payload q (meaning kind address payload) refl (said_is_sayable line kind address payload q) f
    go (wrong r) q f = no (sym (never_full line 255 0 (omega arith)) ∙ ap (λ (s : Said). is_full (answered s 255 0)) q ∙ f)

-- ---- the ways of a call

-- two words of a call that differ
apart : {A : Type 0} {t₁ t₂ : Told} → tells t₁ ≡ tells t₂ → t₁ ≢ t₂ → A
apart e n = absurd (n cc)

pub not_used_up : {A : Type 0} {t : Told} → used_up ≡ tells t → A
not_used_up e = let z : ◌≡◌ {A = ℕ} 0 1 = cc in absurd (omega arith)

pub fits : (s : Chunks) (carry : List ℕ) → too_small s carry ≡ false → (522 ≤ length carry) × (s.used ≤ 522)
unfolding too_small
fits s carry e =
    let (a, b) = or_false (ltb (length carry) 522) (ltb 522 s.used) e in
    (ltb-false (length carry) 522 a, ltb-false 522 s.used b)

pub misfits : (s : Chunks) (carry : List ℕ) → too_small s carry ≡ true → TooSmall s carry
unfolding too_small
misfits s carry e = go (ltb (length carry) 522) refl (ltb 522 s.used) refl e
  where
    go : (a : Bool) → ltb (length carry) 522 ≡ a → (b : Bool) → ltb 522 s.used ≡ b → a || b ≡ true → TooSmall s carry
    go true p b q e = inl (ltb-true (length carry) 522 p)
    go false p true q e = inr (ltb-true 522 s.used q)
    go false p false q e = let z : ◌≡◌ {A = ℕ} 0 1 = cc in absurd (omega arith)

small : (s : Chunks) (carry : List ℕ) → TooSmall s carry → too_small s carry ≡ true
small s carry (inl h) = small_carry s carry h
small s carry (inr h) = much_used s carry h

module _ (s : Chunks) (used chunk pool : List ℕ) (at : ℕ) (start : Option (List ℕ)) (n : ℕ) (k : Kept) (position : ℕ) (last : Bool) where
  abbrev t : Told
  t = answered (judge (stands_for k)) (length pool) at

  abbrev of_line : Outcome
  of_line = answered_line s used chunk pool at start n k position last

  -- PoolFull, or the line is used up
  pub line_full : is_full t ≡ true → of_line ≡ record { word = tells t; state = s; lies = Nowhere; shows = []; carried = used; pool = pool }
  unfolding answered_line
  line_full f = if_true (is_full t) _ _ f

  pub line_used : is_full t ≡ false → of_line ≡ record {
    word = tells t;
    state = past_line s position (number_behind s n) (last || ends_row s.options t);
    lies = if is_record t then place chunk start (stands_for k) else Nowhere;
    shows = if is_record t then stands_for k else [];
    carried = in_carry start k;
    pool = poured (judge (stands_for k)) pool at;
  }
  unfolding answered_line
  line_used f = if_false (is_full t) _ _ f

  pub line_word : of_line.word ≡ tells t
  line_word = go (is_full t) refl
    where
      go : (f : Bool) → is_full t ≡ f → of_line.word ≡ tells t
      go true f = ap (λ (o : Outcome). o.word) (line_full f)
      go false f = ap (λ (o : Outcome). o.word) (line_used f)

  line_pool : of_line.pool ≡ poured (judge (stands_for k)) pool at
  line_pool = go (is_full t) refl
    where
      go : (f : Bool) → is_full t ≡ f → of_line.pool ≡ poured (judge (stands_for k)) pool at
      go true f = ap (λ (o : Outcome). o.pool) (line_full f) ∙ sym (full_keeps (judge (stands_for k)) pool at f)
      go false f = ap (λ (o : Outcome). o.pool) (line_used f)

module _ (s : Chunks) (chunk carry pool : List ℕ) (at : ℕ) where
  abbrev text : List ℕ
  text = drop s.position chunk

  pub next_ways : (P : Outcome → Type 0)
      → (too_small s carry ≡ true → P (unchanged (tells (refuses carry_too_small)) s carry pool))
      → (too_small s carry ≡ false → s.finished ≡ true → P (unchanged (tells done) s carry pool))
      → (too_small s carry ≡ false → s.finished ≡ false → (f : Sought) → look s.empties (begun s carry) text ≡ f → P (of_sought s (take s.used carry) chunk pool at f))
      → P (next_outcome s chunk carry pool at)
  next_ways P a b c = by_small (too_small s carry) refl
    where
      by_done : too_small s carry ≡ false → (d : Bool) → s.finished ≡ d → P (next_outcome s chunk carry pool at)
      by_done e true d = subst P (sym (next_over s chunk carry pool at e d)) (b e d)
      by_done e false d = subst P (sym (next_on s chunk carry pool at e d)) (c e d (look s.empties (begun s carry) text) refl)

      by_small : (e : Bool) → too_small s carry ≡ e → P (next_outcome s chunk carry pool at)
      by_small true e = subst P (sym (next_18 s chunk carry pool at e)) (a e)
      by_small false e = by_done e s.finished refl

module _ (s : Chunks) (carry pool : List ℕ) (at : ℕ) where
  abbrev last_line : Kept
  last_line = with_CR (begun s carry)

  abbrev of_last : Outcome
  of_last = answered_line s (take s.used carry) [] pool at none s.empties last_line 0 true

  pub finish_ways : (P : Outcome → Type 0)
      → (too_small s carry ≡ true → P (unchanged (tells (refuses carry_too_small)) s carry pool))
      → (too_small s carry ≡ false → s.finished ≡ true → P (unchanged (tells done) s carry pool))
      → (too_small s carry ≡ false → s.finished ≡ false → is_empty last_line.bytes ≡ true → P (nothing_left s pool))
      → (too_small s carry ≡ false → s.finished ≡ false → is_empty last_line.bytes ≡ false → P of_last)
      → P (finish_outcome s carry pool at)
  finish_ways P a b c d = by_small (too_small s carry) refl
    where
      by_empty : too_small s carry ≡ false → s.finished ≡ false → (e : Bool) → is_empty last_line.bytes ≡ e → P (finish_outcome s carry pool at)
      by_empty x y true z = subst P (sym (finish_on s carry pool at x y true z)) (c x y z)
      by_empty x y false z = subst P (sym (finish_on s carry pool at x y false z)) (d x y z)

      by_done : too_small s carry ≡ false → (e : Bool) → s.finished ≡ e → P (finish_outcome s carry pool at)
      by_done x true y = subst P (sym (finish_over s carry pool at x y)) (b x y)
      by_done x false y = by_empty x y (is_empty last_line.bytes) refl

      by_small : (e : Bool) → too_small s carry ≡ e → P (finish_outcome s carry pool at)
      by_small true x = subst P (sym (finish_18 s carry pool at x)) (a x)
      by_small false x = by_done x s.finished refl

-- ---- what a call can be told, and what the pool holds then

pub next_told : (s : Chunks) (chunk carry pool : List ℕ) (at : ℕ) (P : Word → (pool' : List ℕ) → Type 0) → P (tells (refuses carry_too_small)) pool → P (tells done) pool
    → ((line : List ℕ) → P (tells (answered (judge line) (length pool) at)) (poured (judge line) pool at)) → P used_up pool
    → let o = next_outcome s chunk carry pool at in P o.word o.pool
unfolding unchanged of_sought
next_told s chunk carry pool at P small over of_line up = next_ways s chunk carry pool at (λ o. P o.word o.pool) (λ e. small) (λ e d. over) (λ e d f q. found f)
  where
    found : (f : Sought) → let o = of_sought s (take s.used carry) chunk pool at f in P o.word o.pool
    found (ended start n l rest) =
        let position = length chunk - length rest in
        rw (line_word s (take s.used carry) chunk pool at start n l position false, line_pool s (take s.used carry) chunk pool at start n l position false) (of_line (stands_for l))
    found (unended n b) = up

pub finish_told : (s : Chunks) (carry pool : List ℕ) (at : ℕ) (P : Word → (pool' : List ℕ) → Type 0) → P (tells (refuses carry_too_small)) pool → P (tells done) pool
    → ((line : List ℕ) → P (tells (answered (judge line) (length pool) at)) (poured (judge line) pool at))
    → let o = finish_outcome s carry pool at in P o.word o.pool
unfolding unchanged
finish_told s carry pool at P small over of_line =
    finish_ways s carry pool at (λ o. P o.word o.pool) (λ e. small) (λ e d. over) (λ e d z. over)
    (λ e d z.
    let l : Kept = with_CR (begun s carry) in
    rw (line_word s (take s.used carry) [] pool at none s.empties l 0 true, line_pool s (take s.used carry) [] pool at none s.empties l 0 true) (of_line (stands_for l)))

-- what `finish` names does not lie in a chunk
pub finish_place : (s : Chunks) (carry pool : List ℕ) (at : ℕ) (P : Place → Type 0) → P Nowhere → ((n : ℕ) → P (InCarry n)) → P (finish_outcome s carry pool at).lies
unfolding unchanged answered_line place
finish_place s carry pool at P none-given in_carry =
    finish_ways s carry pool at (λ o. P o.lies) (λ e. none-given) (λ e d. none-given) (λ e d z. none-given)
    (λ e d z.
    let l : List ℕ = stands_for (with_CR (begun s carry)) in
    let t : Told = answered (judge l) (length pool) at in
    branch (λ (o : Outcome). P o.lies) (is_full t) _ _ (λ f. none-given) (λ f. branch P (is_record t) _ _ (λ r. in_carry (length l)) (λ r. none-given)))

-- ---- 18

done_not : (r : Refusal) → done ≢ refuses r
done_not r e = let z : ◌≡◌ {A = ℕ} 0 1 = cc in omega arith

pub carry_first : CarryFirst
unfolding unchanged of_sought
carry_first s chunk carry pool at = (
  record {
    first = λ h. next_18 s chunk carry pool at (small s carry h);
    only =
        next_ways s chunk carry pool at (λ o. o.word ≡ tells (refuses carry_too_small) → TooSmall s carry)
        (λ e w. misfits s carry e) (λ e d w. apart w (done_not carry_too_small)) (λ e d f q w. found f w);
  },
  record {
    first = λ h. finish_18 s carry pool at (small s carry h);
    only =
        finish_ways s carry pool at (λ o. o.word ≡ tells (refuses carry_too_small) → TooSmall s carry)
        (λ e w. misfits s carry e) (λ e d w. apart w (done_not carry_too_small)) (λ e d z w. apart w (done_not carry_too_small))
        (λ e d z w. apart (sym (line_word s (take s.used carry) [] pool at none s.empties (with_CR (begun s carry)) 0 true) ∙ w) (never_18 (stands_for (with_CR (begun s carry))) (length pool) at));
  },
)
  where
    found : (f : Sought) → (of_sought s (take s.used carry) chunk pool at f).word ≡ tells (refuses carry_too_small) → TooSmall s carry
    found (ended start n line rest) w = apart (sym (line_word s (take s.used carry) chunk pool at start n line (length chunk - length rest) false) ∙ w) (never_18 (stands_for line) (length pool) at)
    found (unended n b) w = not_used_up w

pub eighteen_changes_nothing : EighteenChangesNothing
unfolding unchanged
eighteen_changes_nothing s chunk carry pool at r carry' pool' l w m = go m
  where
    same : {chunk : List ℕ} → Meets (unchanged (tells (refuses carry_too_small)) s carry pool) chunk r carry' pool' → (r.state ≡ s) × (carry' ≡ carry) × (pool' ≡ pool)
    same m = (m.state, sym (take-length carry') ∙ ap (λ (n : ℕ). take n carry') l ∙ m.carry, m.left)

    go : Meets (next_outcome s chunk carry pool at) chunk r carry' pool' ⊎ Meets (finish_outcome s carry pool at) [] r carry' pool' → (r.state ≡ s) × (carry' ≡ carry) × (pool' ≡ pool)
    go (inl m) =
        let e = (carry_first s chunk carry pool at).0 in
        same (subst (λ (o : Outcome). Meets o chunk r carry' pool') (e.first (e.only (sym m.answer ∙ w))) m)
    go (inr m) =
        let e = (carry_first s chunk carry pool at).1 in
        same (subst (λ (o : Outcome). Meets o [] r carry' pool') (e.first (e.only (sym m.answer ∙ w))) m)

-- ---- PoolFull

eighteen_not : refuses carry_too_small ≢ refuses pool_full
unfolding told_number
eighteen_not e = let n : ◌≡◌ {A = ℕ} 18 10 = ap told_number e in omega arith

full_of : (t : Told) → t ≡ refuses pool_full → is_full t ≡ true
unfolding is_full
full_of t e = rw e

-- what an outcome leaves that is told PoolFull
abbrev pub Keeps : (s : Chunks) (carry pool : List ℕ) → Outcome → Type 0
Keeps s carry pool o =
    o.word ≡ tells (refuses pool_full) → (o.state ≡ s) × (o.carried ≡ take s.used carry) × (length o.carried ≡ s.used) × (o.pool ≡ pool)

pub full_outcome : (s : Chunks) (chunk carry pool : List ℕ) (at : ℕ) → Keeps s carry pool (next_outcome s chunk carry pool at) × Keeps s carry pool (finish_outcome s carry pool at)
unfolding unchanged of_sought
full_outcome s chunk carry pool at = (
  next_ways s chunk carry pool at (Keeps s carry pool)
      (λ e w. apart w eighteen_not) (λ e d w. apart w (done_not pool_full)) (λ e d f q w. found e f w),
  finish_ways s carry pool at (Keeps s carry pool)
      (λ e w. apart w eighteen_not) (λ e d w. apart w (done_not pool_full)) (λ e d z w. apart w (done_not pool_full))
      (λ e d z w. line e [] none s.empties (with_CR (begun s carry)) 0 true w),
)
  where
    line : too_small s carry ≡ false → (chunk₀ : List ℕ) (start : Option (List ℕ)) (n : ℕ) (l : Kept) (position : ℕ) (last : Bool)
        → Keeps s carry pool (answered_line s (take s.used carry) chunk₀ pool at start n l position last)
    line e chunk₀ start n l position last w =
        let told : tells (answered (judge (stands_for l)) (length pool) at) ≡ tells (refuses pool_full) =
        sym (line_word s (take s.used carry) chunk₀ pool at start n l position last) ∙ w in
        let (big, few) = fits s carry e in
        rw (line_full s (take s.used carry) chunk₀ pool at start n l position last (full_of (answered (judge (stands_for l)) (length pool) at) cc))
        (refl, refl, length-take-le s.used carry (omega arith), refl)

    found : too_small s carry ≡ false → (f : Sought) → Keeps s carry pool (of_sought s (take s.used carry) chunk pool at f)
    found e (ended start n l rest) w = line e chunk start n l (length chunk - length rest) false w
    found e (unended n b) w = not_used_up w

pub full_stays : FullKeeps
full_stays s chunk carry pool at r carry' pool' w m = go m
  where
    stayed : (o : Outcome) (chunk₀ : List ℕ) → Keeps s carry pool o → Meets o chunk₀ r carry' pool' → (r.state ≡ s) × (take s.used carry' ≡ take s.used carry) × (pool' ≡ pool)
    stayed o chunk₀ keeps m =
        let (a, b, n, p) = keeps (sym m.answer ∙ w) in
        (m.state ∙ a, ap (λ (n : ℕ). take n carry') (sym n) ∙ m.carry ∙ b, m.left ∙ p)

    go : Meets (next_outcome s chunk carry pool at) chunk r carry' pool' ⊎ Meets (finish_outcome s carry pool at) [] r carry' pool'
        → (r.state ≡ s) × (take s.used carry' ≡ take s.used carry) × (pool' ≡ pool)
    go (inl m) = stayed (next_outcome s chunk carry pool at) chunk (full_outcome s chunk carry pool at).0 m
    go (inr m) = stayed (finish_outcome s carry pool at) [] (full_outcome s chunk carry pool at).1 m

-- a line that was told PoolFull, where there is room
room_for : (l : Kept) (n at : ℕ) (f : FullLine (stands_for l) n at) (s : Chunks) (used chunk pool : List ℕ) (at' : ℕ) (start : Option (List ℕ)) (k position : ℕ) (last : Bool) → at' + length f.bytes ≤ length pool
    → ((answered_line s used chunk pool at' start k l position last).word ≡ tells (gives 0 (f.offset ∷ at' ∷ length f.bytes ∷ [])))
    × ((answered_line s used chunk pool at' start k l position last).pool ≡ pasted pool at' f.bytes)
room_for l n at f s used chunk pool at' start k position last r = (
  line_word s used chunk pool at' start k l position last ∙ ap tells (f.then_told (length pool) at' r),
  line_pool s used chunk pool at' start k l position last ∙ f.then_poured pool at' r,
)

pub full_then_room : FullThenRoom
unfolding unchanged of_sought
full_then_room s chunk carry pool at = (
  next_ways s chunk carry pool at (λ o. o.word ≡ tells (refuses pool_full) → GivesThen s carry (next_outcome s chunk))
      (λ e w. apart w eighteen_not) (λ e d w. apart w (done_not pool_full)) (λ e d f q w. found e d f q w),
  finish_ways s carry pool at (λ o. o.word ≡ tells (refuses pool_full) → GivesThen s carry (finish_outcome s))
      (λ e w. apart w eighteen_not) (λ e d w. apart w (done_not pool_full)) (λ e d z w. apart w (done_not pool_full)) (λ e d z w. ended_so e d z w),
)
  where
    full : (used chunk₀ : List ℕ) (start : Option (List ℕ)) (n : ℕ) (l : Kept) (position : ℕ) (last : Bool)
        → (answered_line s used chunk₀ pool at start n l position last).word ≡ tells (refuses pool_full) → FullLine (stands_for l) (length pool) at
    full used chunk₀ start n l position last w =
        let told : tells (answered (judge (stands_for l)) (length pool) at) ≡ tells (refuses pool_full) = sym (line_word s used chunk₀ pool at start n l position last) ∙ w in
        full_line (stands_for l) (length pool) at (full_of (answered (judge (stands_for l)) (length pool) at) cc)

    found : too_small s carry ≡ false → s.finished ≡ false → (f : Sought) → look s.empties (begun s carry) (drop s.position chunk) ≡ f
        → (of_sought s (take s.used carry) chunk pool at f).word ≡ tells (refuses pool_full) → GivesThen s carry (next_outcome s chunk)
    found e d (unended n b) q w = not_used_up w
    found e d (ended start n l rest) q w =
        let f = full (take s.used carry) chunk start n l (length chunk - length rest) false w in
        record {
          offset = f.offset;
          bytes = f.bytes;
          few = f.few;
          with_room = λ carry' pool' at' big k r.
              let is : next_outcome s chunk carry' pool' at' ≡ answered_line s (take s.used carry') chunk pool' at' start n l (length chunk - length rest) false =
              next_on s chunk carry' pool' at' (big_enough s carry' big (fits s carry e).1) d
              ∙ ap (λ (b : Begun). of_sought s (take s.used carry') chunk pool' at' (look s.empties b (drop s.position chunk))) (same_begun s carry carry' k)
              ∙ ap (of_sought s (take s.used carry') chunk pool' at') q in
              let (x, y) = room_for l (length pool) at f s (take s.used carry') chunk pool' at' start n (length chunk - length rest) false r in
              (ap (λ (o : Outcome). o.word) is ∙ x, ap (λ (o : Outcome). o.pool) is ∙ y);
        }

    ended_so : too_small s carry ≡ false → s.finished ≡ false → is_empty (with_CR (begun s carry)).bytes ≡ false
        → (answered_line s (take s.used carry) [] pool at none s.empties (with_CR (begun s carry)) 0 true).word ≡ tells (refuses pool_full) → GivesThen s carry (finish_outcome s)
    ended_so e d z w =
        let l : Kept = with_CR (begun s carry) in
        let f = full (take s.used carry) [] none s.empties l 0 true w in
        record {
          offset = f.offset;
          bytes = f.bytes;
          few = f.few;
          with_room = λ carry' pool' at' big k r.
              let same : with_CR (begun s carry') ≡ l = ap with_CR (same_begun s carry carry' k) in
              let is : finish_outcome s carry' pool' at' ≡ answered_line s (take s.used carry') [] pool' at' none s.empties l 0 true =
              finish_on s carry' pool' at' (big_enough s carry' big (fits s carry e).1) d false (ap (λ (x : Kept). is_empty x.bytes) same ∙ z)
              ∙ ap (λ (x : Kept). answered_line s (take s.used carry') [] pool' at' none s.empties x 0 true) same in
              let (x, y) = room_for l (length pool) at f s (take s.used carry') [] pool' at' none s.empties 0 true r in
              (ap (λ (o : Outcome). o.word) is ∙ x, ap (λ (o : Outcome). o.pool) is ∙ y);
        }

-- ---- "done"

only_done : (s : Chunks) → s.finished ≡ true → s.used ≤ 522 → OnlyDone s
only_done s d u chunk carry pool at big = (next_over s chunk carry pool at (big_enough s carry big u) d, finish_over s carry pool at (big_enough s carry big u) d)

pub finish_ends : FinishEnds
unfolding unchanged
finish_ends s carry pool at big few =
    finish_ways s carry pool at (λ o. o.word ≢ tells (refuses pool_full) → OnlyDone o.state)
    (λ e n. let z : ◌≡◌ {A = Bool} true false = sym e ∙ big_enough s carry big few in let y : ◌≡◌ {A = ℕ} 0 1 = cc in absurd (omega arith))
    (λ e d n. only_done s d few) (λ e d z n. only_done (over s) refl few) (λ e d z n. line (with_CR (begun s carry)) n)
  where
    line : (l : Kept) → (answered_line s (take s.used carry) [] pool at none s.empties l 0 true).word ≢ tells (refuses pool_full)
        → OnlyDone (answered_line s (take s.used carry) [] pool at none s.empties l 0 true).state
    line l n = go (is_full (answered (judge (stands_for l)) (length pool) at)) refl
      where
        go : (f : Bool) → is_full (answered (judge (stands_for l)) (length pool) at) ≡ f → OnlyDone (answered_line s (take s.used carry) [] pool at none s.empties l 0 true).state
        go true f = absurd (n (line_word s (take s.used carry) [] pool at none s.empties l 0 true ∙ ap tells (full_line (stands_for l) (length pool) at f).told_full))
        go false f =
            subst (λ (o : Outcome). OnlyDone o.state) (sym (line_used s (take s.used carry) [] pool at none s.empties l 0 true f))
            (only_done (past_line s 0 (number_behind s s.empties) (true || ends_row s.options (answered (judge (stands_for l)) (length pool) at))) refl (omega arith))

pub done_stays : DoneStays
unfolding unchanged of_sought
done_stays s chunk carry pool at =
    next_ways s chunk carry pool at (λ o. o.word ≡ tells done → OnlyDone o.state)
    (λ e w. apart w (λ q. done_not carry_too_small (sym q))) (λ e d w. only_done s d (fits s carry e).1) (λ e d f q w. found f w)
  where
    found : (f : Sought) → (of_sought s (take s.used carry) chunk pool at f).word ≡ tells done → OnlyDone (of_sought s (take s.used carry) chunk pool at f).state
    found (ended start n l rest) w = apart (sym (line_word s (take s.used carry) chunk pool at start n l (length chunk - length rest) false) ∙ w) (never_done (judge (stands_for l)) (length pool) at)
    found (unended n b) w = not_used_up w

-- ---- on through the chunk

pub told_is : {t₁ t₂ : Told} → tells t₁ ≡ tells t₂ → t₁ ≡ t₂
told_is e = cc

pub moves : Moves
unfolding unchanged of_sought Fine look
moves s chunk carry pool at t w nf nd n18 =
    next_ways s chunk carry pool at (λ o. o.word ≡ tells t → (s.position < o.state.position) × (o.state.position ≤ length chunk))
    (λ e w. absurd (n18 (sym (told_is w)))) (λ e d w. absurd (nd (sym (told_is w))))
    (λ e d f q w. found f (subst (λ (x : Sought). Fine x (drop s.position chunk)) q (look_fine e)) w) w
  where
    look_fine : too_small s carry ≡ false → Fine (look s.empties (begun s carry) (drop s.position chunk)) (drop s.position chunk)
    look_fine e =
        let (big, few) = fits s carry e in
        fine (drop s.position chunk) _ s.empties (begun s carry) (sound_begun s carry big few)

    found : (f : Sought) → Fine f (drop s.position chunk) → (of_sought s (take s.used carry) chunk pool at f).word ≡ tells t
        → (s.position < (of_sought s (take s.used carry) chunk pool at f).state.position) × ((of_sought s (take s.used carry) chunk pool at f).state.position ≤ length chunk)
    found (unended n b) h w = not_used_up w
    found (ended start n l rest) (c, p, e) w =
        let is : answered (judge (stands_for l)) (length pool) at ≡ t = told_is (sym (line_word s (take s.used carry) chunk pool at start n l (length chunk - length rest) false) ∙ w) in
        let size : length (drop s.position chunk) ≡ suc_of (length p + length rest) = ap length e ∙ ap suc_of (length-append p rest) in
        let d = length-drop s.position chunk in
        subst (λ (o : Outcome). (s.position < o.state.position) × (o.state.position ≤ length chunk))
        (sym (line_used s (take s.used carry) chunk pool at start n l (length chunk - length rest) false (ap is_full is ∙ nf)))
        (omega arith, omega arith)
      where
        suc_of : ℕ → ℕ
        suc_of n = Prim.Native.Nat.suc n

-- ---- the carry's unused bytes

heard_of : {o₁ o₂ : Outcome} → o₁ ≡ o₂ → SameHeard o₁ o₂
heard_of e =
    record {
      same_word = ap (λ (o : Outcome). o.word) e;
      same_state = ap (λ (o : Outcome). o.state) e;
      same_place = ap (λ (o : Outcome). o.lies) e;
      same_line = ap (λ (o : Outcome). o.shows) e;
    }

same_of : {o₁ o₂ : Outcome} → o₁ ≡ o₂ → SameButCarry o₁ o₂
same_of e = record { heard = heard_of e; same_used = ap (λ (o : Outcome). take o.state.used o.carried) e; same_pool = ap (λ (o : Outcome). o.pool) e }

-- a relation of two outcomes, by what they are
by : (R : Outcome → Outcome → Type 0) {o₁ o₂ p₁ p₂ : Outcome} → o₁ ≡ p₁ → o₂ ≡ p₂ → R p₁ p₂ → R o₁ o₂
by R e f m = rw (e, f) m

same_unchanged : (w : Word) (s : Chunks) (carry₁ carry₂ pool : List ℕ) → take s.used carry₁ ≡ take s.used carry₂ → SameButCarry (unchanged w s carry₁ pool) (unchanged w s carry₂ pool)
unfolding unchanged
same_unchanged w s carry₁ carry₂ pool e = record { heard = record { same_word = refl; same_state = refl; same_place = refl; same_line = refl }; same_used = e; same_pool = refl }

module _ (s : Chunks) (chunk carry₁ carry₂ pool : List ℕ) (at : ℕ) (big₁ : 522 ≤ length carry₁) (big₂ : 522 ≤ length carry₂) (same : take s.used carry₁ ≡ take s.used carry₂) where
  abbrev Blind : Type 0
  Blind =
      SameButCarry (next_outcome s chunk carry₁ pool at) (next_outcome s chunk carry₂ pool at) × SameButCarry (finish_outcome s carry₁ pool at) (finish_outcome s carry₂ pool at)

  begun_is : begun s carry₁ ≡ begun s carry₂
  begun_is = same_begun s carry₂ carry₁ same

  blind : Blind
  blind = split s.used 522 few many
    where
      many : 522 < s.used → Blind
      many h = (
        by SameButCarry (next_18 s chunk carry₁ pool at (much_used s carry₁ h)) (next_18 s chunk carry₂ pool at (much_used s carry₂ h)) (same_unchanged (tells (refuses carry_too_small)) s carry₁ carry₂ pool same),
        by SameButCarry (finish_18 s carry₁ pool at (much_used s carry₁ h)) (finish_18 s carry₂ pool at (much_used s carry₂ h)) (same_unchanged (tells (refuses carry_too_small)) s carry₁ carry₂ pool same),
      )

      by_done : s.used ≤ 522 → (d : Bool) → s.finished ≡ d → Blind
      by_done h true d = (
        by SameButCarry (next_over s chunk carry₁ pool at (big_enough s carry₁ big₁ h) d) (next_over s chunk carry₂ pool at (big_enough s carry₂ big₂ h) d) (same_unchanged (tells done) s carry₁ carry₂ pool same),
        by SameButCarry (finish_over s carry₁ pool at (big_enough s carry₁ big₁ h) d) (finish_over s carry₂ pool at (big_enough s carry₂ big₂ h) d) (same_unchanged (tells done) s carry₁ carry₂ pool same),
      )
      by_done h false d =
          let line_is : with_CR (begun s carry₁) ≡ with_CR (begun s carry₂) = ap with_CR begun_is in (
            same_of
                (next_on s chunk carry₁ pool at (big_enough s carry₁ big₁ h) d
                ∙ ap₂ (λ (used : List ℕ) (b : Begun). of_sought s used chunk pool at (look s.empties b (drop s.position chunk))) same begun_is
                ∙ sym (next_on s chunk carry₂ pool at (big_enough s carry₂ big₂ h) d)),
            same_of
                (finish_on s carry₁ pool at (big_enough s carry₁ big₁ h) d (is_empty (with_CR (begun s carry₂)).bytes) (ap (λ (k : Kept). is_empty k.bytes) line_is)
                ∙ ap₂ (λ (used : List ℕ) (line : Kept). if is_empty (with_CR (begun s carry₂)).bytes then nothing_left s pool else answered_line s used [] pool at none s.empties line 0 true) same line_is
                ∙ sym (finish_on s carry₂ pool at (big_enough s carry₂ big₂ h) d (is_empty (with_CR (begun s carry₂)).bytes) refl)),
          )

      few : s.used ≤ 522 → Blind
      few h = by_done h s.finished refl

pub carry_blind : CarryBlind
carry_blind s chunk carry₁ carry₂ pool at big₁ big₂ same = blind s chunk carry₁ carry₂ pool at big₁ big₂ same

-- ---- the pool's bytes

line_blind : (s : Chunks) (used chunk pool₁ pool₂ : List ℕ) (at : ℕ) (start : Option (List ℕ)) (n : ℕ) (l : Kept) (position : ℕ) (last : Bool) → length pool₁ ≡ length pool₂
    → SameButPool (answered_line s used chunk pool₁ at start n l position last) (answered_line s used chunk pool₂ at start n l position last)
line_blind s used chunk pool₁ pool₂ at start n l position last e = go (is_full (answered (judge (stands_for l)) (length pool₁) at)) refl
  where
    t_is : answered (judge (stands_for l)) (length pool₁) at ≡ answered (judge (stands_for l)) (length pool₂) at
    t_is = ap (λ (k : ℕ). answered (judge (stands_for l)) k at) e

    go : (f : Bool) → is_full (answered (judge (stands_for l)) (length pool₁) at) ≡ f
        → SameButPool (answered_line s used chunk pool₁ at start n l position last) (answered_line s used chunk pool₂ at start n l position last)
    go true f =
        by SameButPool (line_full s used chunk pool₁ at start n l position last f) (line_full s used chunk pool₂ at start n l position last (ap is_full (sym t_is) ∙ f))
        (record { heard = record { same_word = ap tells t_is; same_state = refl; same_place = refl; same_line = refl }; same_carry = refl })
    go false f =
        by SameButPool (line_used s used chunk pool₁ at start n l position last f) (line_used s used chunk pool₂ at start n l position last (ap is_full (sym t_is) ∙ f))
        (record {
          heard = record {
            same_word = ap tells t_is;
            same_state = ap (λ (t : Told). past_line s position (number_behind s n) (last || ends_row s.options t)) t_is;
            same_place = ap (λ (t : Told). if is_record t then place chunk start (stands_for l) else Nowhere) t_is;
            same_line = ap (λ (t : Told). if is_record t then stands_for l else []) t_is;
          };
          same_carry = refl;
        })

pub pool_blind : PoolBlind
unfolding unchanged of_sought
pool_blind s chunk carry pool₁ pool₂ at e = (
  next_ways s chunk carry pool₁ at (λ o. SameButPool o (next_outcome s chunk carry pool₂ at))
      (λ x. by SameButPool refl (next_18 s chunk carry pool₂ at x) alike) (λ x d. by SameButPool refl (next_over s chunk carry pool₂ at x d) alike)
      (λ x d f q. by SameButPool refl (next_on s chunk carry pool₂ at x d ∙ ap (of_sought s (take s.used carry) chunk pool₂ at) q) (found f)),
  finish_ways s carry pool₁ at (λ o. SameButPool o (finish_outcome s carry pool₂ at))
      (λ x. by SameButPool refl (finish_18 s carry pool₂ at x) alike) (λ x d. by SameButPool refl (finish_over s carry pool₂ at x d) alike)
      (λ x d z. by SameButPool refl (finish_on s carry pool₂ at x d true z) alike)
      (λ x d z. by SameButPool refl (finish_on s carry pool₂ at x d false z) (line_blind s (take s.used carry) [] pool₁ pool₂ at none s.empties (with_CR (begun s carry)) 0 true e)),
)
  where
    alike : {w : Word} {s : Chunks} {carried : List ℕ} → SameButPool (record { word = w; state = s; lies = Nowhere; shows = []; carried = carried; pool = pool₁ }) (record { word = w; state = s; lies = Nowhere; shows = []; carried = carried; pool = pool₂ })
    alike = record { heard = record { same_word = refl; same_state = refl; same_place = refl; same_line = refl }; same_carry = refl }

    found : (f : Sought) → SameButPool (of_sought s (take s.used carry) chunk pool₁ at f) (of_sought s (take s.used carry) chunk pool₂ at f)
    found (ended start n l rest) = line_blind s (take s.used carry) chunk pool₁ pool₂ at start n l (length chunk - length rest) false e
    found (unended n b) = alike
