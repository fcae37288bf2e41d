-- Noise in a whole dump. Two texts that differ in one slip are the same through the last LF before it, and after the line that it is in.
-- If both are accepted, what stands there in each is empty or a record, in one line or, by a LF, in two. After one slip a record is the same
-- record or none, and none goes on after another: so both texts say the same.
-- Assumes nothing.
use Rattle.std.proofs.Common.{◌≡◌, ℕ, ◌≤◌, Bool, ◌⊎◌, List, [], ◌∷◌, ◌++◌, length, drop, sym, refl, ap, ◌∙◌, subst, ap₂, subst₂, inl, inr, append_assoc, append-nil, arith}
use native.Mathlib.Decide.{ℕ_discrete}
use Rattle.record.specs.Line.{judge}
use Rattle.record.specs.Meaning.{meaning}
use Rattle.digits.specs.Digits.{number_after}
use Rattle.record.specs.Noise.{Slip, no_slip, one_changed, one_lost, one_added, two_swapped}
use Rattle.record.proofs.Noise.{no_record_goes_on}
use Rattle.reader.specs.Lines.{LF, first_line, lines}
use Rattle.reader.proofs.Cutting.{lines_cons, lines_closed}
use Rattle.steps.specs.Steps.{Placement, Tally, nothing_yet, Verdict, accepted, refused, verdict}
use Rattle.steps.specs.Source as source
use Rattle.steps.specs.Sites.{painted, marked}
use Rattle.steps.proofs.Sites.{accepted_by}
use Rattle.window.specs.Window.{window}
use Rattle.intel.specs.Placing.{from_start, intel_by, intel, steps_of, placements}
use Rattle.marks.specs.Marks.{flags, packed}
use Rattle.window.specs.Load.{room_of, stopping_by_window, load_window}
use Rattle.loader.specs.Load.{stopping, load}
use Rattle.loader.specs.Noise.{NoLF, Slips, the_rest, last_line, one_more, Damaged, one_slip, one_in_each_line, cut_off, RefusedOrSame, is_refused, is_the_same, DamageIsNoticed, Examples}
use Rattle.window.proofs.Loads.{load_answer, accepted_load}
use Rattle.loader.proofs.Demand3.{refusal_changes_nothing}
use Rattle.loader.proofs.Agreeing.{Fine, word, Agree, agree_swap, agree_none, agree_fine, agree_word, agree_skip, agree_same, agree_after}
use Rattle.loader.proofs.Edits.{few, swapped, Turn, turn_at, turn, without_CR, without_append, without_parts, without_few, without_turned, edited, no_LF_append, feed_or_not, Tail, ends, feeds, first_cut, last_cut, cut_rest, fine_line}

-- ---- two texts that differ in one slip

module _ (inside : ℕ → Bool) where
  -- a text's lines are its first and those of the rest
  agree_lines : (x t : List ℕ) (ls : List (List ℕ)) → NoLF x → Tail t → Agree inside (first_line (x ++ t) ∷ lines (drop 1 t)) ls → Agree inside (lines (x ++ t)) ls
  unfolding lines
  agree_lines [] t ls n ends g = agree_none inside ls
  agree_lines [] t ls n (feeds r) g = rw (lines_cons LF r, cut_rest [] (LF ∷ r) n (feeds r)) g
  agree_lines (c ∷ x) t ls n k g = rw (lines_cons c (x ++ t), cut_rest (c ∷ x) t n k) g

  -- and so are another's
  agree_both : (x t x' t' : List ℕ) → NoLF x → Tail t → NoLF x' → Tail t'
      → Agree inside (first_line (x ++ t) ∷ lines (drop 1 t)) (first_line (x' ++ t') ∷ lines (drop 1 t')) → Agree inside (lines (x ++ t)) (lines (x' ++ t'))
  agree_both x t x' t' n k n' k' g =
      agree_lines x t (lines (x' ++ t')) n k
      (agree_swap inside (lines (x' ++ t')) (first_line (x ++ t) ∷ lines (drop 1 t))
      (agree_lines x' t' (first_line (x ++ t) ∷ lines (drop 1 t)) n' k' (agree_swap inside (first_line (x ++ t) ∷ lines (drop 1 t)) (first_line (x' ++ t') ∷ lines (drop 1 t')) g)))

  -- a record or an empty line, that goes on in the other text where here a LF stands: nothing goes on
  ended_early : (p d m a e b : List ℕ) (ks ls : List (List ℕ)) → length d ≤ 1 → a ≡ p → e ≡ p ++ (d ++ m) → (Fine b → b ≡ m)
      → ((ls' : List (List ℕ)) → Agree inside (b ∷ ls) ls' → Agree inside ks ls') → Fine a → Fine e → Agree inside (a ∷ ks) (e ∷ ls)
  ended_early [] d m a e b ks ls h is_a is-e is_b through f g =
      agree_skip inside a ks (e ∷ ls) (λ x. is_a)
      (through (e ∷ ls) (agree_fine inside b e ls ls (λ f' g'. agree_word inside b e ls ls (same_word f') (agree_same inside ls))))
    where
      same_word : Fine b → word b ≡ word e
      same_word f' = ap word (is_b f') ∙ edited [] [] d m (few (omega arith) h) (subst Fine (is_b f') f') (subst Fine is-e g) ∙ sym (ap word is-e)
  ended_early (c ∷ p) d m a e b ks ls h is_a is-e is_b through f g =
      let z : d ++ m ≡ [] = no_record_goes_on (c ∷ p) (d ++ m) (subst Fine is_a f) (subst Fine is-e g) in
      let same_line : a ≡ e = is_a ∙ sym (is-e ∙ ap (λ (l : List ℕ). (c ∷ p) ++ l) z ∙ append-nil (c ∷ p)) in
      agree_word inside a e ks ls (ap word same_line) (through ls (agree_skip inside b ls ls (λ f'. is_b f' ∙ second d m z) (agree_same inside ls)))
    where
      second : (d m : List ℕ) → d ++ m ≡ [] → m ≡ []
      second [] m z = z
      second (x ∷ d) m z = let w : ◌≡◌ {A = ℕ} 0 1 = cc in absurd (omega arith)

  -- a line of each, which differ in one slip, and texts after them that agree
  off_line : (l l' t t' : List ℕ) → NoLF l → NoLF l' → Tail t → Tail t' → Turn l l' → Agree inside (lines (drop 1 t)) (lines (drop 1 t')) → Agree inside (lines (l ++ t)) (lines (l' ++ t'))
  off_line l l' t t' n n' k k' o g =
      let a = first_line (l ++ t) in
      let b = first_line (l' ++ t') in
      agree_both l t l' t' n k n' k'
      (agree_fine inside a b (lines (drop 1 t)) (lines (drop 1 t')) (λ f f'. agree_word inside a b (lines (drop 1 t)) (lines (drop 1 t')) (says_same f f') g))
    where
      p : List ℕ
      p = without_CR o.before

      m : List ℕ
      m = without_CR o.after

      says_same : Fine (first_line (l ++ t)) → Fine (first_line (l' ++ t')) → word (first_line (l ++ t)) ≡ word (first_line (l' ++ t'))
      says_same f f' =
          let e : first_line (l ++ t) ≡ p ++ (without_CR o.old ++ m) = fine_line l t n k f ∙ ap without_CR o.line_was ∙ without_parts o.before o.old o.after in
          let e' : first_line (l' ++ t') ≡ p ++ (without_CR o.new ++ m) = fine_line l' t' n' k' f' ∙ ap without_CR o.line_is ∙ without_parts o.before o.new o.after in
          ap word e
          ∙ edited p (without_CR o.old) (without_CR o.new) m (without_turned o.turned) (subst Fine e f) (subst Fine e' f')
          ∙ sym (ap word e')

  -- a LF in place of a character or none
  at_a_feed : (p y m t : List ℕ) → NoLF p → length y ≤ 1 → NoLF y → NoLF m → Tail t → Agree inside (lines (p ++ (LF ∷ (m ++ t)))) (lines ((p ++ (y ++ m)) ++ t))
  at_a_feed p y m t n h ny nm k =
      let a = first_line (p ++ (LF ∷ (m ++ t))) in
      let e = first_line ((p ++ (y ++ m)) ++ t) in
      let b = first_line (m ++ t) in
      let ls = lines (drop 1 t) in
      let ne = no_LF_append p (y ++ m) n (no_LF_append y m ny nm) in
      agree_both p (LF ∷ (m ++ t)) (p ++ (y ++ m)) t n (feeds (m ++ t)) ne k
      (agree_fine inside a e (lines (m ++ t)) ls (λ f g.
      ended_early (without_CR p) (without_CR y) (without_CR m) a e b (lines (m ++ t)) ls (without_few y h) (fine_line p (LF ∷ (m ++ t)) n (feeds (m ++ t)) f) (fine_line (p ++ (y ++ m)) t ne k g ∙ without_parts p y m)
      (fine_line m t nm k) (λ ls'. agree_lines m t ls' nm k) f g))

  -- a byte or none in place of a byte or none, in the text's last open part
  one_edit_open : (p x y q : List ℕ) → NoLF p → length x ≤ 1 → length y ≤ 1 → Agree inside (lines (p ++ (x ++ q))) (lines (p ++ (y ++ q)))
  one_edit_open p x y q n hx hy = let k = first_cut q in rw k.whole (go k.front k.tail k.plain k.is_tail (feed_or_not x hx) (feed_or_not y hy))
    where
      regroup : (x m t : List ℕ) → (p ++ (x ++ m)) ++ t ≡ p ++ (x ++ (m ++ t))
      regroup x m t = simp append_assoc

      go : (m t : List ℕ) → NoLF m → Tail t → NoLF x ⊎ (x ≡ LF ∷ []) → NoLF y ⊎ (y ≡ LF ∷ []) → Agree inside (lines (p ++ (x ++ (m ++ t)))) (lines (p ++ (y ++ (m ++ t))))
      go m t nm k (inl nx) (inl ny) =
          rw (← (regroup x m t), ← (regroup y m t))
          (off_line (p ++ (x ++ m)) (p ++ (y ++ m)) t t (no_LF_append p (x ++ m) n (no_LF_append x m nx nm)) (no_LF_append p (y ++ m) n (no_LF_append y m ny nm)) k k
          (turn_at p x y m (few hx hy)) (agree_same inside (lines (drop 1 t))))
      go m t nm k (inr ex) (inl ny) = rw (ex, ← (regroup y m t)) (at_a_feed p y m t n hy ny nm k)
      go m t nm k (inl nx) (inr ey) = rw (ey, ← (regroup x m t)) (agree_swap inside (lines (p ++ (LF ∷ (m ++ t)))) (lines ((p ++ (x ++ m)) ++ t)) (at_a_feed p x m t n hx nx nm k))
      go m t nm k (inr ex) (inr ey) = rw (ex, ey) (agree_same inside (lines (p ++ (LF ∷ (m ++ t)))))

  -- two neighbours swapped, in the text's last open part
  one_swap_open : (p : List ℕ) (a b : ℕ) (q : List ℕ) → NoLF p → Agree inside (lines (p ++ (a ∷ b ∷ q))) (lines (p ++ (b ∷ a ∷ q)))
  one_swap_open p a b q n = let k = first_cut q in rw k.whole (go k.front k.tail k.plain k.is_tail (ℕ_discrete a LF) (ℕ_discrete b LF))
    where
      -- a character swapped with the LF after it: one line loses it, and the next one gains it
      over_a_feed : (c : ℕ) (m t : List ℕ) → ¬ (c ≡ LF) → NoLF m → Tail t → Agree inside (lines (p ++ (c ∷ LF ∷ (m ++ t)))) (lines (p ++ (LF ∷ c ∷ (m ++ t))))
      over_a_feed c m t nc nm k =
          rw (← (append_assoc p (c ∷ []) (LF ∷ (m ++ t))))
          (off_line (p ++ (c ∷ [])) p (LF ∷ (m ++ t)) (LF ∷ c ∷ (m ++ t)) (no_LF_append p (c ∷ []) n (nc, tt)) n (feeds (m ++ t)) (feeds (c ∷ (m ++ t)))
          (record { before = p; old = c ∷ []; new = []; after = []; line_was = refl; line_is = sym (append-nil p); turned = few (omega arith) (omega arith) })
          (off_line m (c ∷ m) t t nm (nc, nm) k k (turn_at [] [] (c ∷ []) m (few (omega arith) (omega arith))) (agree_same inside (lines (drop 1 t)))))

      go : (m t : List ℕ) → NoLF m → Tail t → Dec (a ≡ LF) → Dec (b ≡ LF) → Agree inside (lines (p ++ (a ∷ b ∷ (m ++ t)))) (lines (p ++ (b ∷ a ∷ (m ++ t))))
      go m t nm k (no na) (no nb) =
          rw (← (append_assoc p (a ∷ b ∷ m) t), ← (append_assoc p (b ∷ a ∷ m) t))
          (off_line (p ++ (a ∷ b ∷ m)) (p ++ (b ∷ a ∷ m)) t t (no_LF_append p (a ∷ b ∷ m) n (na, (nb, nm))) (no_LF_append p (b ∷ a ∷ m) n (nb, (na, nm))) k k
          (turn_at p (a ∷ b ∷ []) (b ∷ a ∷ []) m (swapped a b)) (agree_same inside (lines (drop 1 t))))
      go m t nm k (no na) (yes eb) = rw eb (over_a_feed a m t na nm k)
      go m t nm k (yes ea) (no nb) = rw ea (agree_swap inside (lines (p ++ (b ∷ LF ∷ (m ++ t)))) (lines (p ++ (LF ∷ b ∷ (m ++ t)))) (over_a_feed b m t nb nm k))
      go m t nm k (yes ea) (yes eb) = rw (ea, eb) (agree_same inside (lines (p ++ (LF ∷ LF ∷ (m ++ t)))))

  -- what differs after a part that both have
  after_part : (p r r' : List ℕ) → ((q : List ℕ) → NoLF q → Agree inside (lines (q ++ r)) (lines (q ++ r'))) → Agree inside (lines (p ++ r)) (lines (p ++ r'))
  after_part p r r' g =
      let k = last_cut p in
      let at : (l : List ℕ) → lines (p ++ l) ≡ lines k.head ++ lines (k.open_part ++ l) =
      λ l. ap (λ (h : List ℕ). lines (h ++ l)) k.whole ∙ ap lines (append_assoc k.head k.open_part l) ∙ lines_closed k.is_closed (k.open_part ++ l) in
      rw (at r, at r') (agree_after inside (lines k.head) _ _ (g k.open_part k.plain))

  one_edit : (p x y q : List ℕ) → length x ≤ 1 → length y ≤ 1 → Agree inside (lines (p ++ (x ++ q))) (lines (p ++ (y ++ q)))
  one_edit p x y q hx hy = after_part p (x ++ q) (y ++ q) (λ o n. one_edit_open o x y q n hx hy)

  slipped : (text text' : List ℕ) → Slip text text' → Agree inside (lines text) (lines text')
  slipped text text' (no_slip {row = t}) = agree_same inside (lines t)
  slipped text text' (one_changed p a b q) = one_edit p (a ∷ []) (b ∷ []) q (omega arith) (omega arith)
  slipped text text' (one_lost p a q) = one_edit p (a ∷ []) [] q (omega arith) (omega arith)
  slipped text text' (one_added p a q) = one_edit p [] (a ∷ []) q (omega arith) (omega arith)
  slipped text text' (two_swapped p a b q) = after_part p (a ∷ b ∷ q) (b ∷ a ∷ q) (λ o n. one_swap_open o a b q n)

  -- ---- one slip in each line

  slips : (text text' : List ℕ) → Slips text text' → Agree inside (lines text) (lines text')
  unfolding lines
  slips text text' (the_rest {text = t}) = agree_same inside (lines t)
  slips text text' (last_line {line} {line'} n n' o) =
      subst₂ (λ (l l' : List ℕ). Agree inside (lines l) (lines l')) (append-nil line) (append-nil line')
      (off_line line line' [] [] n n' ends ends (turn o) (agree_none inside []))
  slips text text' (one_more {line} {line'} {text = t} {text' = t'} n n' o k) =
      off_line line line' (LF ∷ t) (LF ∷ t') n n' (feeds t) (feeds t') (turn o) (slips t t' k)

  -- ---- a text cut off

  -- a last line that goes on in the other text: if it is a record, nothing goes on
  ended_there : (p m a e : List ℕ) (ls : List (List ℕ)) → a ≡ p → e ≡ p ++ m → Fine a → Fine e → Agree inside (a ∷ []) (e ∷ ls)
  ended_there [] m a e ls is_a is-e f g = agree_skip inside a [] (e ∷ ls) (λ x. is_a) (agree_none inside (e ∷ ls))
  ended_there (c ∷ p) m a e ls is_a is-e f g =
      let z : m ≡ [] = no_record_goes_on (c ∷ p) m (subst Fine is_a f) (subst Fine is-e g) in
      let same_line : a ≡ e = is_a ∙ sym (is-e ∙ ap (λ (l : List ℕ). (c ∷ p) ++ l) z ∙ append-nil (c ∷ p)) in
      agree_word inside a e [] ls (ap word same_line) (agree_none inside ls)

  cut_open : (p q : List ℕ) → NoLF p → Agree inside (lines p) (lines (p ++ q))
  unfolding lines
  cut_open p q n =
      let k = first_cut q in
      subst (λ (l : List ℕ). Agree inside (lines l) (lines (p ++ q))) (append-nil p) (rw k.whole (go k.front k.tail k.plain k.is_tail))
    where
      go : (m t : List ℕ) → NoLF m → Tail t → Agree inside (lines (p ++ [])) (lines (p ++ (m ++ t)))
      go m t nm k =
          let a = first_line (p ++ []) in
          let e = first_line ((p ++ m) ++ t) in
          let nb = no_LF_append p m n nm in
          rw (← (append_assoc p m t))
          (agree_both p [] (p ++ m) t n ends nb k
          (agree_fine inside a e [] (lines (drop 1 t)) (λ f g.
          ended_there (without_CR p) (without_CR m) a e (lines (drop 1 t)) (fine_line p [] n ends f) (fine_line (p ++ m) t nb k g ∙ without_append p m) f g)))

  cut_short : (p q : List ℕ) → Agree inside (lines p) (lines (p ++ q))
  cut_short p q =
      subst (λ (l : List ℕ). Agree inside (lines l) (lines (p ++ q))) (append-nil p)
      (after_part p [] q (λ o n. subst (λ (l : List ℕ). Agree inside (lines l) (lines (o ++ q))) (sym (append-nil o)) (cut_open o q n)))

  damaged : (text text' : List ℕ) → Damaged text text' → Agree inside (lines text) (lines text')
  damaged text text' (one_slip s) = slipped text text' s
  damaged text text' (one_in_each_line s) = slips text text' s
  damaged text text' (cut_off before after) = agree_swap inside (lines before) (lines (before ++ after)) (cut_short before after)

-- ---- loads

-- two accepted loads with the same tally and the same placements
equal_loads : (text text' : List ℕ) (first : ℕ) (page marks : List ℕ) (t t' : Tally)
    → verdict (stopping text first page marks) ≡ accepted t → verdict (stopping text' first page marks) ≡ accepted t'
    → t ≡ t' → placements text ≡ placements text' → load text' first page marks ≡ load text first page marks
equal_loads text text' first page marks t t' e e' tallies ps =
    accepted_load intel text' first page marks t' e'
    ∙ ap₂ (λ (k : Tally) (l : List Placement). record { answer = accepted k; page = painted (window first (length page)) 0 l page; marks = packed (marked (window first (length page)) 0 l (flags (length page) marks)) }) (sym tallies) (sym ps)
    ∙ sym (accepted_load intel text first page marks t e)

module _ (text text' : List ℕ) (agree : (inside : ℕ → Bool) → Agree inside (lines text) (lines text')) where
  -- two texts that are both accepted
  same_load : (first : ℕ) (page marks : List ℕ) (t t' : Tally)
      → verdict (stopping text first page marks) ≡ accepted t → verdict (stopping text' first page marks) ≡ accepted t'
      → load text' first page marks ≡ load text first page marks
  unfolding stopping_by_window source.steps_of intel_by
  same_load first page marks t t' e e' =
      let room = room_of first page marks in
      let (m, d) = accepted_by room.fault room.inside (steps_of text) t e in
      let (m', d') = accepted_by room.fault room.inside (steps_of text') t' e' in
      let (tallies, ps) = agree room.inside 1 1 from_start nothing_yet m m' t t' d d' in
      equal_loads text text' first page marks t t' e e' tallies ps

-- ---- the code

-- of the definition
pub load_noticed : (text text' : List ℕ) → Damaged text text' → (first : ℕ) (page marks : List ℕ) (tally : Tally) → (load text first page marks).answer ≡ accepted tally
    → let l = load text first page marks in let l' = load text' first page marks in
    RefusedOrSame page marks l.answer l.page l.marks l'.answer l'.page l'.marks
load_noticed text text' d first page marks tally e = go (verdict (stopping text' first page marks)) refl
  where
    go : (v : Verdict) → verdict (stopping text' first page marks) ≡ v
        → let l = load text first page marks in let l' = load text' first page marks in
        RefusedOrSame page marks l.answer l.page l.marks l'.answer l'.page l'.marks
    go (accepted t') e' =
        rw (same_load text text' (λ inside. damaged inside text text' d) first page marks tally t' (sym (load_answer intel text first page marks) ∙ e) e') is_the_same
    go (refused why n) e' =
        let a : (load text' first page marks).answer ≡ refused why n = load_answer intel text' first page marks ∙ e' in
        let (q, k) = refusal_changes_nothing text' first page marks why n a in
        rw (a, q, k) (is_refused why n)

-- and of whatever meets the contract
pub damage_is_noticed : DamageIsNoticed
damage_is_noticed text text' d first page marks r p m tally l e r' p' m' l' =
    rw (l.answer, l.page, l.marks, l'.answer, l'.page, l'.marks) (load_noticed text text' d first page marks tally (sym l.answer ∙ e))

-- ---- examples

pub examples : Examples
unfolding load_window intel_by judge meaning number_after
examples = record { small_letter = refl; other_digit = refl; joined = refl; CR_added = refl; swapped = refl; LF_cut_off = refl; digit_cut_off = refl }
