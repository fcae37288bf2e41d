-- Calls of which only the contracts are known give the row over the pieces of the joined chunks: each call answers the first piece
-- that is unseen and leaves the rest.
-- Assumes nothing.
use Rattle.std.proofs.Common.{◌≡◌, ℕ, ◌+◌, ◌-◌, ◌%◌, ◌<◌, ◌≤◌, Bool, true, false, ◌||◌, eqb, ltb, List, [], ◌∷◌, ◌++◌, map, length, take, drop, sym, refl, ap, ◌∙◌, ap₂, add-zero, arith, length-take-le, ltb-false, ltb-true, lt-ltb}
use mathlib.Core.Option
use mathlib.Core.Option.{Option, none, some}
use Rattle.std.specs.Prelude.{if◌then◌else◌}
use Rattle.record.specs.Line.{judge}
use Rattle.digits.proofs.Tests.{both_ways, if_true, if_false}
use Rattle.reader.specs.declared.ReaderOptions.{ReaderOptions}
use Rattle.reader.specs.Told.{Told, done}
use Rattle.reader.specs.Answer.{answered}
use Rattle.reader.specs.Lines.{LF, CR}
use Rattle.reader.specs.Text.{is_full, ends_row}
use Rattle.reader.specs.Calls.{Call, given_done}
use Rattle.reader.proofs.Along.{suffix_at, suffix_drop}
use Rattle.chunks.specs.declared.Chunks.{Chunks}
use Rattle.chunks.specs.Begun.{Kept, none_kept, Begun, nothing, is_empty, push, stands_for, with_CR, add, counted, Sought, ended, unended, seek, look}
use Rattle.chunks.specs.Next.{tells, left_out, begun, holding, past_line, over, number_behind, Outcome, unchanged, answered_line, of_sought, too_small, next_outcome, finish_outcome}
use Rattle.chunks.specs.Rows.{joined, Seen, seen_of, Heard, FedBy, no_more, told_next, next_chunk, told_last, Projects, Nth, nth, seen_for, showing}
use Rattle.chunks.proofs.Brief.{push_more, length_push, still_full}
use Rattle.chunks.proofs.Pieces.{M, twice, pieces, pieces_end, pieces_mod, found, pieces_look}
use Rattle.chunks.proofs.FirstTests.{big_enough, next_over, next_on, nothing_left, finish_over, finish_on}

-- ---- what was sought ends the text, or is what a carry can keep

-- what a carry can keep: nothing was left out where there was room
pub record Sound (k : Kept) : Type 0 where
  pub short : length k.bytes ≤ 522
  pub none_out : length k.bytes < 522 → k.skipped ≡ 0

unfoldable pub Fine : Sought → List ℕ → Type 0
Fine (ended start n kept rest) text = (c : ℕ) × (p : List ℕ) × (text ≡ c ∷ (p ++ rest))
Fine (unended n b) text = Sound b.kept

fine_cons : (c : ℕ) (f : Sought) (text : List ℕ) → Fine f text → Fine f (c ∷ text)
unfolding Fine
fine_cons c (ended start n kept rest) text (d, p, e) = (c, d ∷ p, ap (λ (t : List ℕ). c ∷ t) e)
fine_cons c (unended n b) text h = h

pub sound_nothing : Sound none_kept
sound_nothing = record { short = omega arith; none_out = λ _. refl }

sound_push : (k : Kept) (c : ℕ) → Sound k → Sound (push k c)
sound_push k c s = record { short = length_push k c s.short; none_out = go (ltb (length k.bytes) 522) refl }
  where
    go : (t : Bool) → ltb (length k.bytes) 522 ≡ t → length (push k c).bytes < 522 → (push k c).skipped ≡ 0
    go true e h = let l = ltb-true (length k.bytes) 522 e in ap (λ (x : Kept). x.skipped) (push_more k c l) ∙ s.none_out l
    go false e h = absurd (omega (arith, still_full k c (omega (arith, s.short, ltb-false (length k.bytes) 522 e))))

sound_CR : (b : Begun) → Sound b.kept → Sound (with_CR b)
unfolding with_CR
sound_CR b h = both_ways (λ t. Sound (if t then push b.kept CR else b.kept)) b.cr (sound_push b.kept CR h) h

sound_add : (b : Begun) (c : ℕ) → Sound b.kept → Sound (add b c).kept
unfolding add
sound_add b c h =
    both_ways (λ t. let b' : Begun = if t then record { kept = with_CR b; cr = true } else record { kept = push (with_CR b) c; cr = false } in Sound b'.kept) (eqb c CR)
    (sound_CR b h) (sound_push (with_CR b) c (sound_CR b h))

pub fine : (text : List ℕ) (start : Option (List ℕ)) (n : ℕ) (b : Begun) → Sound b.kept → Fine (seek start n b text) text
unfolding Fine seek
fine [] start n b h = h
fine (c ∷ text) start n b h =
    both_ways (λ t. Fine (if t then (if is_empty b.kept.bytes then seek (some text) (counted n) nothing text else ended start n b.kept text) else seek start n (add b c) text) (c ∷ text)) (eqb c LF)
    (both_ways (λ t. Fine (if t then seek (some text) (counted n) nothing text else ended start n b.kept text) (c ∷ text)) (is_empty b.kept.bytes)
    (fine_cons c (seek (some text) (counted n) nothing text) text (fine text (some text) (counted n) nothing sound_nothing)) (c, [], refl))
    (fine_cons c (seek start n (add b c) text) text (fine text start n (add b c) (sound_add b c h)))

-- ---- what is unseen

-- the used bytes of a carry are all that is begun
pub same_begun : (s : Chunks) (carry carry' : List ℕ) → take s.used carry' ≡ take s.used carry → begun s carry' ≡ begun s carry
same_begun s carry carry' e = ap (λ (bytes : List ℕ). record { kept = record { bytes = bytes; skipped = left_out s }; cr = s.cr }) e

-- and a carry can keep it
pub sound_begun : (s : Chunks) (carry : List ℕ) → 522 ≤ length carry → s.used ≤ 522 → Sound (begun s carry).kept
sound_begun s carry big small =
    let n : length (take s.used carry) ≡ s.used = length-take-le s.used carry (omega arith) in
    record { short = omega arith; none_out = λ h. rw (lt-ltb s.used 522 (omega arith)) }

-- the chunks, the first from a place on
unfoldable pub from_place : ℕ → List (List ℕ) → List (List ℕ)
from_place n [] = []
from_place n (chunk ∷ chunks) = drop n chunk ∷ chunks

-- the pieces that a state has still to answer, with the chunks to come
unfoldable pub unseen : Chunks → (carry : List ℕ) → List (List ℕ) → List Nth
unfolding from_place joined
unseen s carry chunks = if s.finished then [] else pieces (s.line + s.empties) (begun s carry) (joined (from_place s.position chunks))

unseen_over : (s : Chunks) (carry : List ℕ) (chunks : List (List ℕ)) → s.finished ≡ true → unseen s carry chunks ≡ []
unfolding unseen
unseen_over s carry chunks e = if_true s.finished _ _ e

unseen_on : (s : Chunks) (carry : List ℕ) (chunks : List (List ℕ)) → s.finished ≡ false
    → unseen s carry chunks ≡ pieces (s.line + s.empties) (begun s carry) (joined (from_place s.position chunks))
unfolding unseen
unseen_on s carry chunks e = if_false s.finished _ _ e

pub record Good (options : ReaderOptions) (s : Chunks) (carry : List ℕ) : Type 0 where
  pub big : 522 ≤ length carry
  pub small : s.used ≤ 522
  pub options_is : s.options ≡ options

module _ (options : ReaderOptions) where
  abbrev pub Row : (last : ℕ) → List Nth → List Call → List Seen
  Row last left calls = showing options last left calls

  -- ---- the row, one call more

  abbrev pub answer_to : List ℕ → Call → Told
  answer_to line call = answered (judge line) (length call.pool) call.at

  pub show_none : (last : ℕ) (call : Call) (calls : List Call) → Row last [] (call ∷ calls) ≡ record { given = given_done last call; shown = [] } ∷ Row last [] calls
  unfolding showing
  show_none last call calls = refl

  pub show_full : (last n : ℕ) (line : List ℕ) (left : List Nth) (call : Call) (calls : List Call) → is_full (answer_to line call) ≡ true
      → Row last (nth n line ∷ left) (call ∷ calls) ≡ record { given = record { told = answer_to line call; pool = call.pool; line = last }; shown = [] } ∷ Row last (nth n line ∷ left) calls
  unfolding showing
  show_full last n line left call calls e = if_true (is_full (answer_to line call)) _ _ e

  pub show_line : (last n : ℕ) (line : List ℕ) (left : List Nth) (call : Call) (calls : List Call) → is_full (answer_to line call) ≡ false
      → Row last (nth n line ∷ left) (call ∷ calls) ≡ seen_for (nth n line) call ∷ Row n (if ends_row options (answer_to line call) then [] else left) calls
  unfolding showing
  show_line last n line left call calls e = if_false (is_full (answer_to line call)) _ _ e

  -- ---- what a call comes to, by its outcome

  module _ (s : Chunks) (carry : List ℕ) (here next : List (List ℕ)) (call : Call) (calls : List Call) (carry' : List ℕ) where
    -- what is seen heads the row; where the chunk is used up the row stays, over the chunks behind it
    unfoldable pub Follows : Option Seen → Chunks → Type 0
    Follows (some x) s' = Row s.line (unseen s carry here) (call ∷ calls) ≡ x ∷ Row s'.line (unseen s' carry' here) calls
    Follows none s' = Row s.line (unseen s carry here) (call ∷ calls) ≡ Row s'.line (unseen s' carry' next) (call ∷ calls)

    pub record GoesOn (o : Outcome) : Type 0 where
      pub row : Follows (seen_of o) o.state
      pub good : Good options o.state carry'

    -- nothing is unseen: `s'` is the state then
    over_row : (s' : Chunks) → unseen s carry here ≡ [] → s'.finished ≡ true → s.line ≡ s'.line → Follows (some (record { given = given_done s.line call; shown = [] })) s'
    unfolding Follows
    over_row s' e f l =
        ap (λ (x : List Nth). Row s.line x (call ∷ calls)) e
        ∙ show_none s.line call calls
        ∙ ap₂ (λ (k : ℕ) (x : List Nth). record { given = given_done s.line call; shown = [] } ∷ Row k x calls) l (sym (unseen_over s' carry' here f))

    -- a line is answered
    module _ (used chunk : List ℕ) (start : Option (List ℕ)) (n : ℕ) (kept : Kept) (position : ℕ) (last : Bool) (left : List Nth)
        (m : take (length (answered_line s used chunk call.pool call.at start n kept position last).carried) carry' ≡ (answered_line s used chunk call.pool call.at start n kept position last).carried)
        (g : Good options s carry) (l : length carry' ≡ length carry)
        (have : unseen s carry here ≡ nth (number_behind s n) (stands_for kept) ∷ left)
        (again : take (length used) carry' ≡ used → unseen s carry' here ≡ unseen s carry here)
        (behind : unseen (past_line s position (number_behind s n) (last || ends_row s.options (answer_to (stands_for kept) call))) carry' here
        ≡ (if ends_row s.options (answer_to (stands_for kept) call) then [] else left)) where
      abbrev t : Told
      t = answer_to (stands_for kept) call

      asked : Row s.line (unseen s carry here) (call ∷ calls) ≡ Row s.line (nth (number_behind s n) (stands_for kept) ∷ left) (call ∷ calls)
      asked = ap (λ (x : List Nth). Row s.line x (call ∷ calls)) have

      line_goes_on : GoesOn (answered_line s used chunk call.pool call.at start n kept position last)
      unfolding Follows answered_line
      line_goes_on = go (is_full t) refl
        where
          go : (f : Bool) → is_full t ≡ f → GoesOn (answered_line s used chunk call.pool call.at start n kept position last)
          go true f =
              rw (if_true (is_full t) _ _ f)
              (record {
                row = asked ∙ show_full s.line (number_behind s n) (stands_for kept) left call calls f
                    ∙ ap (λ (x : List Nth). record { given = record { told = t; pool = call.pool; line = s.line }; shown = [] } ∷ Row s.line x calls)
                    (sym have ∙ sym (again (rw (if_true (is_full t) _ _ f) at m)));
                good = record { big = omega (arith, g.big); small = g.small; options_is = g.options_is };
              })
          go false f =
              rw (if_false (is_full t) _ _ f)
              (record {
                row = asked ∙ show_line s.line (number_behind s n) (stands_for kept) left call calls f
                    ∙ ap (λ (x : List Nth). seen_for (nth (number_behind s n) (stands_for kept)) call ∷ Row (number_behind s n) x calls)
                    (ap (λ (x : ReaderOptions). if ends_row x t then [] else left) (sym g.options_is) ∙ sym behind);
                good = record { big = omega (arith, g.big); small = omega arith; options_is = g.options_is };
              })

  -- PoolFull keeps what is begun
  kept_begun : (s : Chunks) (carry carry' : List ℕ) → s.used ≤ length carry → take (length (take s.used carry)) carry' ≡ take s.used carry → begun s carry' ≡ begun s carry
  kept_begun s carry carry' h k = same_begun s carry carry' (ap (λ (n : ℕ). take n carry') (sym (length-take-le s.used carry h)) ∙ k)

  same_unseen : (s : Chunks) (carry carry' : List ℕ) (chunks : List (List ℕ)) → begun s carry' ≡ begun s carry → unseen s carry' chunks ≡ unseen s carry chunks
  unfolding unseen
  same_unseen s carry carry' chunks e =
      ap (λ (b : Begun). if s.finished then [] else pieces (s.line + s.empties) b (joined (from_place s.position chunks))) e

  -- ---- a call of `next`

  module _ (s : Chunks) (carry chunk : List ℕ) (chunks : List (List ℕ)) (call : Call) (calls : List Call) (carry' : List ℕ)
      (g : Good options s carry) (l : length carry' ≡ length carry) where
    abbrev b₀ : Begun
    b₀ = begun s carry

    abbrev text₀ : List ℕ
    text₀ = drop s.position chunk

    abbrev NextGoesOn : Outcome → Type 0
    NextGoesOn o = take (length o.carried) carry' ≡ o.carried → GoesOn s carry (chunk ∷ chunks) chunks call calls carry' o

    unseen_found : s.finished ≡ false → (f : Sought) → look s.empties b₀ text₀ ≡ f → unseen s carry (chunk ∷ chunks) ≡ found s.line f (joined chunks)
    unfolding from_place joined
    unseen_found d f e = unseen_on s carry (chunk ∷ chunks) d ∙ pieces_look s.line s.empties b₀ text₀ (joined chunks) ∙ ap (λ (x : Sought). found s.line x (joined chunks)) e

    next_ended : s.finished ≡ true → NextGoesOn (unchanged (tells done) s carry call.pool)
    unfolding unchanged
    next_ended d m =
        record {
          row = over_row s carry (chunk ∷ chunks) chunks call calls carry' s (unseen_over s carry (chunk ∷ chunks) d) d refl;
          good = record { big = omega (arith, g.big); small = g.small; options_is = g.options_is };
        }

    held_unseen : (n : ℕ) (b : Begun) → Sound b.kept → take (length b.kept.bytes) carry' ≡ b.kept.bytes → unseen (holding s n b) carry' chunks ≡ pieces (s.line + n) b (joined chunks)
    unfolding unseen
    held_unseen n b h k =
        ap₂ (λ (x : Begun) (y : List (List ℕ)). pieces (s.line + n) x (joined y))
        (ap₂ (λ (bytes : List ℕ) (m : ℕ). record { kept = record { bytes = bytes; skipped = m }; cr = b.cr }) k (out (ltb (length b.kept.bytes) 522) refl)) (none_dropped chunks)
      where
        out : (t : Bool) → ltb (length b.kept.bytes) 522 ≡ t → (if t then 0 else b.kept.skipped) ≡ b.kept.skipped
        out true e = sym (h.none_out (ltb-true (length b.kept.bytes) 522 e))
        out false e = refl

        none_dropped : (chunks : List (List ℕ)) → from_place 0 chunks ≡ chunks
        none_dropped [] = refl
        none_dropped (c ∷ cs) = refl

    next_found : s.finished ≡ false → (f : Sought) → look s.empties b₀ text₀ ≡ f → Fine f text₀ → NextGoesOn (of_sought s (take s.used carry) chunk call.pool call.at f)
    unfolding Follows Fine of_sought found unseen from_place joined
    next_found d (unended n b) e h m =
        record {
          row = ap (λ (x : List Nth). Row s.line x (call ∷ calls)) (unseen_found d (unended n b) e ∙ sym (held_unseen n b h m));
          good = record { big = omega (arith, g.big); small = h.short; options_is = g.options_is };
        }
    next_found d (ended start n kept rest) e (c, p, tail) m =
        line_goes_on s carry (chunk ∷ chunks) chunks call calls carry' (take s.used carry) chunk start n kept (length chunk - length rest) false left m g l
        (unseen_found d (ended start n kept rest) e)
        (λ k. same_unseen s carry carry' (chunk ∷ chunks) (kept_begun s carry carry' (omega (arith, g.big, g.small)) k))
        (behind (ends_row s.options (answer_to (stands_for kept) call)))
      where
        left : List Nth
        left = pieces (s.line + counted n) nothing (rest ++ joined chunks)

        behind : (b : Bool) → unseen (past_line s (length chunk - length rest) (number_behind s n) b) carry' (chunk ∷ chunks) ≡ (if b then [] else left)
        behind true = refl
        behind false =
            ap (λ (x : List ℕ). pieces (number_behind s n + 0) nothing (x ++ joined chunks)) (suffix_at rest chunk (suffix_drop s.position rest chunk (c ∷ p, tail)))
            ∙ pieces_mod (rest ++ joined chunks) (number_behind s n + 0) (s.line + counted n) nothing (ap (λ (k : ℕ). k % M) (add-zero (number_behind s n)) ∙ twice (s.line + counted n))

    pub next_goes_on : NextGoesOn (next_outcome s chunk carry call.pool call.at)
    unfolding look
    next_goes_on = by_done s.finished refl
      where
        enough : too_small s carry ≡ false
        enough = big_enough s carry g.big g.small

        by_done : (t : Bool) → s.finished ≡ t → NextGoesOn (next_outcome s chunk carry call.pool call.at)
        by_done true d = rw (next_over s chunk carry call.pool call.at enough d) (next_ended d)
        by_done false d =
            rw (next_on s chunk carry call.pool call.at enough d)
            (next_found d (look s.empties b₀ text₀) refl (fine text₀ _ s.empties b₀ (sound_begun s carry g.big g.small)))

  -- ---- a call of `finish`

  module _ (s : Chunks) (carry : List ℕ) (call : Call) (calls : List Call) (carry' : List ℕ) (g : Good options s carry) (l : length carry' ≡ length carry) where
    abbrev FinishGoesOn : Outcome → Type 0
    FinishGoesOn o = take (length o.carried) carry' ≡ o.carried → GoesOn s carry [] [] call calls carry' o

    last_piece : s.finished ≡ false → (e : Bool) → is_empty (with_CR (begun s carry)).bytes ≡ e
        → unseen s carry [] ≡ (if e then [] else nth (number_behind s s.empties) (stands_for (with_CR (begun s carry))) ∷ [])
    unfolding from_place joined
    last_piece d e q = unseen_on s carry [] d ∙ pieces_end s.line s.empties (begun s carry) e q

    finish_ended : s.finished ≡ true → FinishGoesOn (unchanged (tells done) s carry call.pool)
    unfolding unchanged
    finish_ended d m =
        record {
          row = over_row s carry [] [] call calls carry' s (unseen_over s carry [] d) d refl;
          good = record { big = omega (arith, g.big); small = g.small; options_is = g.options_is };
        }

    finish_none : s.finished ≡ false → is_empty (with_CR (begun s carry)).bytes ≡ true → FinishGoesOn (nothing_left s call.pool)
    finish_none d e m =
        record {
          row = over_row s carry [] [] call calls carry' (over s) (last_piece d true e) refl refl;
          good = record { big = omega (arith, g.big); small = g.small; options_is = g.options_is };
        }

    finish_found : s.finished ≡ false → is_empty (with_CR (begun s carry)).bytes ≡ false
        → FinishGoesOn (answered_line s (take s.used carry) [] call.pool call.at none s.empties (with_CR (begun s carry)) 0 true)
    unfolding unseen
    finish_found d e m =
        line_goes_on s carry [] [] call calls carry' (take s.used carry) [] none s.empties (with_CR (begun s carry)) 0 true [] m g l
        (last_piece d false e)
        (λ k. same_unseen s carry carry' [] (kept_begun s carry carry' (omega (arith, g.big, g.small)) k))
        (behind (ends_row s.options (answer_to (stands_for (with_CR (begun s carry))) call)))
      where
        behind : (b : Bool) → unseen (past_line s 0 (number_behind s s.empties) true) carry' [] ≡ (if b then [] else [])
        behind true = refl
        behind false = refl

    pub finish_goes_on : FinishGoesOn (finish_outcome s carry call.pool call.at)
    finish_goes_on = by_done s.finished refl
      where
        enough : too_small s carry ≡ false
        enough = big_enough s carry g.big g.small

        by_empty : s.finished ≡ false → (b : Bool) → is_empty (with_CR (begun s carry)).bytes ≡ b → FinishGoesOn (finish_outcome s carry call.pool call.at)
        by_empty d true e = rw (finish_on s carry call.pool call.at enough d true e) (finish_none d e)
        by_empty d false e = rw (finish_on s carry call.pool call.at enough d false e) (finish_found d e)

        by_done : (t : Bool) → s.finished ≡ t → FinishGoesOn (finish_outcome s carry call.pool call.at)
        by_done true d = rw (finish_over s carry call.pool call.at enough d) (finish_ended d)
        by_done false d = by_empty d (is_empty (with_CR (begun s carry)).bytes) refl

  -- ---- the row, as any caller notes it

  module _ {A : Type 0} (say : Seen → A) (Known : Outcome → (chunk : List ℕ) → Heard A → Type 0) (known : Projects say Known) where
    abbrev Said : (last : ℕ) → List Nth → List Call → List A
    Said last left calls = map say (Row last left calls)

    module _ (s : Chunks) (carry : List ℕ) (here next : List (List ℕ)) (call : Call) (calls : List Call) (carry' : List ℕ) where
      follow_told : (x : Option Seen) (s' : Chunks) (a : A) → Option.map say x ≡ some a → Follows s carry here next call calls carry' x s'
          → Said s.line (unseen s carry here) (call ∷ calls) ≡ a ∷ Said s'.line (unseen s' carry' here) calls
      unfolding Follows
      follow_told (some x) s' a e f = ap (map say) f ∙ ap (λ (y : A). y ∷ Said s'.line (unseen s' carry' here) calls) (let y : say x ≡ a = cc in y)
      follow_told none s' a e f = let z : ◌≡◌ {A = ℕ} 0 1 = cc in absurd (omega arith)

      follow_used : (x : Option Seen) (s' : Chunks) → Option.map say x ≡ none → Follows s carry here next call calls carry' x s'
          → Said s.line (unseen s carry here) (call ∷ calls) ≡ Said s'.line (unseen s' carry' next) (call ∷ calls)
      unfolding Follows
      follow_used (some x) s' e f = let z : ◌≡◌ {A = ℕ} 0 1 = cc in absurd (omega arith)
      follow_used none s' e f = ap (map say) f

    pub rows_met : {s : Chunks} {carry : List ℕ} {chunks : List (List ℕ)} {calls : List Call} {notes : List A}
        → FedBy Known s carry chunks calls notes → Good options s carry → notes ≡ Said s.line (unseen s carry chunks) calls
    unfolding showing
    rows_met no_more g = refl
    rows_met (told_next {s} {carry} {chunk} {chunks} {call} {calls} {a} h k l e more) g =
        let o = next_outcome s chunk carry call.pool call.at in
        let x = known.0 s chunk carry call.pool call.at h k in
        let n = next_goes_on s carry chunk chunks call calls h.carry g l x.begins in
        ap (λ (y : List A). a ∷ y) (rows_met more (rw x.state_is n.good) ∙ ap (λ (z : Chunks). Said z.line (unseen z h.carry (chunk ∷ chunks)) calls) x.state_is)
        ∙ sym (follow_told s carry (chunk ∷ chunks) chunks call calls h.carry (seen_of o) o.state a (sym x.note_is ∙ e) n.row)
    rows_met (next_chunk {s} {carry} {chunk} {chunks} {call} {calls} h k l e more) g =
        let o = next_outcome s chunk carry call.pool call.at in
        let x = known.0 s chunk carry call.pool call.at h k in
        let n = next_goes_on s carry chunk chunks call calls h.carry g l x.begins in
        rows_met more (rw x.state_is n.good)
        ∙ ap (λ (z : Chunks). Said z.line (unseen z h.carry chunks) (call ∷ calls)) x.state_is
        ∙ sym (follow_used s carry (chunk ∷ chunks) chunks call calls h.carry (seen_of o) o.state (sym x.note_is ∙ e) n.row)
    rows_met (told_last {s} {carry} {call} {calls} {a} h k l e more) g =
        let o = finish_outcome s carry call.pool call.at in
        let x = known.1 s carry call.pool call.at h k in
        let n = finish_goes_on s carry call calls h.carry g l x.begins in
        ap (λ (y : List A). a ∷ y) (rows_met more (rw x.state_is n.good) ∙ ap (λ (z : Chunks). Said z.line (unseen z h.carry []) calls) x.state_is)
        ∙ sym (follow_told s carry [] [] call calls h.carry (seen_of o) o.state a (sym x.note_is ∙ e) n.row)
