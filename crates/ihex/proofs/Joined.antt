-- The claims of `specs/Joined.antt`: the loader's own, in numbers.
-- Assumes nothing.
use Prim.Native.Nat.{ℕ, ◌+◌}
use mathlib.Core.Path.{◌≡◌, refl, sym, ◌∙◌, ap, ap₂, subst}
use mathlib.Core.Logic.{◌≢◌, ◌↔◌, ◌⊎◌, inl, inr}
use mathlib.Core.Option.{Option, none, some}
use mathlib.Core.List.{List, [], ◌∷◌, ◌++◌}
use native.Mathlib.Omega.{arith}
use lib.ListN.{length, get_or, replicate}
use Rattle.digits.specs.Common.{Every}
use Rattle.record.specs.Refusals.{refusal}
use Rattle.reader.specs.Lines.{LF, lines}
use Rattle.steps.specs.Steps.{Start, cs_with_ip, linear_address, Tally, nothing_yet, Verdict, accepted, refused}
use Rattle.steps.specs.Sites.{Loaded}
use Rattle.steps.specs.Join.{together, Agreeing, Conflict, after_verdict, AnsweredAfter, as_B, starts_differ}
use Rattle.window.specs.Load.{room_of}
use Rattle.window.specs.Reasons.{bad_one, no_end, at_line}
use Rattle.intel.specs.Placing.{intel, steps_of}
use Rattle.loader.specs.Load.{load}
use Rattle.intel.specs.Lines.{start_on}
use Rattle.loader.specs.Claims.{Why}
use Rattle.loader.specs.Joined.{joined, MeetsAnother, lines_before_B, end_record}
use Rattle.loader.proofs.Claims.{reasons}
use Rattle.loader.proofs.Joined.{answer_by_lengths, joined_accepted, joined_answered, joined_with_one_start, one_upon_another, what_a_panel_sees, either_grouping, nothing_stated, end_alone}
use Rattle.codes.specs.Codes.{OK, LoadNumbers, loading, load_numbers, kind_of_start, start_values}
use Rattle.codes.proofs.Says.{was_accepted}
use Rattle.ihex.specs.Entries.{six, IhexLoad}
use Rattle.ihex.specs.Loads.{InNumbers, no_start, cs_ip, linear}
use Rattle.ihex.specs.Joined.{StartsAgree, none_of_A, none_of_B, the_same, StartOfBoth, MeetsOtherStart, ReturnedAfter, JoinedReturns, as_for_B, other_start, IhexJoined, IhexJoinedAccepted, IhexJoinedWithOneStart, IhexOneUponAnother, IhexWhatAPanelSees, IhexEitherGrouping, IhexNothingStated, BAD_WINDOW, IhexEndAlone}
use Rattle.ihex.proofs.Loads.{accepts, start_numbers}

-- ---- the starts

-- the start of both, from the starts of each
start_both : (t u : Tally) → StartOfBoth (load_numbers (accepted t)) (load_numbers (accepted u)) (load_numbers (accepted (together t u)))
start_both t u = go t.start refl
  where
    go : (o : Option Start) → t.start ≡ o → StartOfBoth (load_numbers (accepted t)) (load_numbers (accepted u)) (load_numbers (accepted (together t u)))
    go none e = record { of_A = λ n. absurd (n (ap kind_of_start e)); or_else_of_B = λ z. rw e (refl, refl, refl) }
    go (some s) e = record { of_A = λ n. rw e (refl, refl, refl); or_else_of_B = λ z. absurd (stated s (ap kind_of_start (sym e) ∙ z)) }
      where
        stated : (s : Start) → kind_of_start (some s) ≡ 0 → ⊥
        stated (cs_with_ip cs ip) q = omega arith
        stated (linear_address address) q = omega arith

-- starts that agree, and their numbers
module _ (t u : Tally) where
  to_numbers : Agreeing t.start u.start → StartsAgree (load_numbers (accepted t)) (load_numbers (accepted u))
  to_numbers g = go t.start u.start refl refl g
    where
      go : (o o' : Option Start) → t.start ≡ o → u.start ≡ o' → Agreeing o o' → StartsAgree (load_numbers (accepted t)) (load_numbers (accepted u))
      go none o' e e' h = none_of_A (ap kind_of_start e)
      go (some s) none e e' h = none_of_B (ap kind_of_start e')
      go (some s) (some s') e e' h =
          let same : t.start ≡ u.start = e ∙ ap some h ∙ sym e' in
          the_same (ap kind_of_start same) (ap (λ (o : Option Start). get_or (start_values o) 0 0) same) (ap (λ (o : Option Start). get_or (start_values o) 1 0) same)

  from_numbers : StartsAgree (load_numbers (accepted t)) (load_numbers (accepted u)) → Agreeing t.start u.start
  from_numbers (none_of_A z) = go t.start z
    where
      go : (o : Option Start) → kind_of_start o ≡ 0 → Agreeing o u.start
      go none z = tt
      go (some (cs_with_ip cs ip)) z = absurd (omega arith)
      go (some (linear_address address)) z = absurd (omega arith)
  from_numbers (none_of_B z) = go t.start u.start z
    where
      go : (o o' : Option Start) → kind_of_start o' ≡ 0 → Agreeing o o'
      go none o' z = tt
      go (some s) none z = tt
      go (some s) (some (cs_with_ip cs ip)) z = absurd (omega arith)
      go (some s) (some (linear_address address)) z = absurd (omega arith)
  from_numbers (the_same k b c) = go t.start u.start k b c
    where
      go : (o o' : Option Start) → kind_of_start o ≡ kind_of_start o' → get_or (start_values o) 0 0 ≡ get_or (start_values o') 0 0
          → get_or (start_values o) 1 0 ≡ get_or (start_values o') 1 0 → Agreeing o o'
      go none o' k b c = tt
      go (some s) none k b c = tt
      go (some (cs_with_ip cs ip)) (some (cs_with_ip cs' ip')) k b c = ap₂ (λ (x y : ℕ). cs_with_ip x y) b c
      go (some (cs_with_ip cs ip)) (some (linear_address a)) k b c = absurd (omega arith)
      go (some (linear_address a)) (some (cs_with_ip cs ip)) k b c = absurd (omega arith)
      go (some (linear_address a)) (some (linear_address a')) k b c = ap linear_address b

-- ---- what is returned

-- a verdict after another, in numbers
after_numbers : (k : ℕ) (t : Tally) (v : Verdict) → ReturnedAfter k (load_numbers (accepted t)) (load_numbers v) (load_numbers (after_verdict k t v))
after_numbers k t (accepted u) =
    record { code_is = refl; line_is = refl; counts_add = λ e. refl; start_is = λ e. start_both t u; refusal_is = λ h. absurd (h refl) }
after_numbers k t (refused (refusal n vs) line) =
    record { code_is = refl; line_is = refl; counts_add = λ e. absurd (omega arith); start_is = λ e. absurd (omega arith); refusal_is = λ h. (refl, refl, refl, refl) }

-- the start that was returned for A is the one in its tally
one_start : (t : Tally) (o : Option Start) → InNumbers (load_numbers (accepted t)) o → o ≡ t.start
one_start t o x = go t.start x
  where
    go : {o : Option Start} (p : Option Start) → InNumbers (load_numbers (accepted (record { records = t.records; start = p }))) o → o ≡ p
    go none (no_start k b c) = refl
    go (some (cs_with_ip x y)) (no_start k b c) = absurd (omega arith)
    go (some (linear_address x)) (no_start k b c) = absurd (omega arith)
    go none (cs_ip cs ip k b c) = absurd (omega arith)
    go (some (cs_with_ip x y)) (cs_ip cs ip k b c) = ap₂ (λ (i j : ℕ). some (cs_with_ip i j)) (sym b) (sym c)
    go (some (linear_address x)) (cs_ip cs ip k b c) = absurd (omega arith)
    go none (linear a k b c) = absurd (omega arith)
    go (some (cs_with_ip x y)) (linear a k b c) = absurd (omega arith)
    go (some (linear_address x)) (linear a k b c) = ap (λ (i : ℕ). some (linear_address i)) (sym b)

module _ (first : ℕ) (a b page marks page' marks' page'' marks'' : List ℕ)
    (lp : length page' ≡ length page) (lm : length marks' ≡ length marks) (lp'' : length page'' ≡ length page) (lm'' : length marks'' ≡ length marks)
    (ra : LoadNumbers) (p m : List ℕ) (la : IhexLoad a first page marks ra p m) (ok : ra.code ≡ OK)
    (rb : LoadNumbers) (p' m' : List ℕ) (lb : IhexLoad b first page' marks' rb p' m')
    (r : LoadNumbers) (p'' m'' : List ℕ) (lj : IhexLoad (joined a b) first page'' marks'' r p'' m'') where
  abbrev Accepts : Type 0
  Accepts = (t : Tally) × ((load a first page marks).answer ≡ accepted t)

  b_is : rb ≡ load_numbers (load b first page marks).answer
  b_is = lb.numbers ∙ ap load_numbers (answer_by_lengths b first page' marks' page marks lp lm)

  joined_is : r ≡ load_numbers (load (joined a b) first page marks).answer
  joined_is = lj.numbers ∙ ap load_numbers (answer_by_lengths (joined a b) first page'' marks'' page marks lp'' lm'')

  -- A's tally, in numbers
  a_is : (t : Tally) → (load a first page marks).answer ≡ accepted t → ra ≡ load_numbers (accepted t)
  a_is t e = la.numbers ∙ ap load_numbers e

  meets_so : (t : Tally) → (load a first page marks).answer ≡ accepted t → (n : ℕ) → MeetsAnother first page marks t b n → MeetsOtherStart first page marks ra b n
  meets_so t e n f = record { start = t.start; returned = start_numbers ra t (a_is t e); conflict = f }

  so_meets : (t : Tally) → (load a first page marks).answer ≡ accepted t → (n : ℕ) → MeetsOtherStart first page marks ra b n → MeetsAnother first page marks t b n
  so_meets t e n f =
      let same : f.start ≡ t.start = one_start t f.start (rw (a_is t e) at f.returned) in
      subst (λ (o : Option Start). Conflict (room_of first page marks).inside o nothing_yet (steps_of b) n) same f.conflict

  returned : Accepts → JoinedReturns (lines_before_B a) (MeetsOtherStart first page marks ra b) ra rb r
  returned (t, e) = go (joined_answered first a b page marks t e) refl
    where
      go : {v : Verdict} → AnsweredAfter (lines_before_B a) t (MeetsAnother first page marks t b) (load b first page marks).answer v → v ≡ (load (joined a b) first page marks).answer
          → JoinedReturns (lines_before_B a) (MeetsOtherStart first page marks ra b) ra rb r
      go (as_B h) q =
          as_for_B (λ n f. h n (so_meets t e n f)) (rw (a_is t e, b_is, joined_is, ← q) (after_numbers (lines_before_B a) t (load b first page marks).answer))
      go (starts_differ n f) q = other_start n (meets_so t e n f) (joined_is ∙ ap load_numbers (sym q))

  exactly : Accepts → (r.code ≡ OK) ↔ ((rb.code ≡ OK) × StartsAgree ra rb)
  exactly (t, e) = (there, back)
    where
      code_of : (x : LoadNumbers) (v : Verdict) → x ≡ load_numbers v → x.code ≡ OK → (loading v).code ≡ OK
      code_of x v q c = ap (λ (n : LoadNumbers). n.code) (sym q) ∙ c

      there : r.code ≡ OK → (rb.code ≡ OK) × StartsAgree ra rb
      there c =
          let (tj, ej) = was_accepted (load (joined a b) first page marks).answer (code_of r (load (joined a b) first page marks).answer joined_is c) in
          let (tb, eb, agree, _) = (joined_accepted first a b page marks t tj e).0 ej in
          let is = b_is ∙ ap load_numbers eb in
          (ap (λ (n : LoadNumbers). n.code) is, rw (a_is t e, is) (to_numbers t tb agree))

      back : (rb.code ≡ OK) × StartsAgree ra rb → r.code ≡ OK
      back (c, agree) =
          let (tb, eb) = was_accepted (load b first page marks).answer (code_of rb (load b first page marks).answer b_is c) in
          let is = b_is ∙ ap load_numbers eb in
          let both = (joined_accepted first a b page marks t (together t tb) e).1 (tb, eb, from_numbers t tb (rw (a_is t e, is) at agree), refl) in
          ap (λ (n : LoadNumbers). n.code) (joined_is ∙ ap load_numbers both)

  with_one_start : Accepts → (ra.start ≡ 0) ⊎ Every (λ (line : List ℕ). start_on line ≡ none) (lines b) → ReturnedAfter (lines_before_B a) ra rb r
  with_one_start (t, e) one =
      let q = joined_with_one_start first a b page marks t e (in_lines one) in
      rw (a_is t e, b_is, joined_is, q) (after_numbers (lines_before_B a) t (load b first page marks).answer)
    where
      unstated : (o : Option Start) → kind_of_start o ≡ 0 → o ≡ none
      unstated none z = refl
      unstated (some (cs_with_ip cs ip)) z = absurd (omega arith)
      unstated (some (linear_address address)) z = absurd (omega arith)

      in_lines : (ra.start ≡ 0) ⊎ Every (λ (line : List ℕ). start_on line ≡ none) (lines b) → (t.start ≡ none) ⊎ Every (λ (line : List ℕ). start_on line ≡ none) (lines b)
      in_lines (inl z) = inl (unstated t.start (ap (λ (n : LoadNumbers). n.start) (sym (a_is t e)) ∙ z))
      in_lines (inr h) = inr h

pub ihex_joined : IhexJoined
ihex_joined first a b page marks page' marks' page'' marks'' lp lm lp'' lm'' ra p m la ok rb p' m' lb r p'' m'' lj =
    returned first a b page marks page' marks' page'' marks'' lp lm lp'' lm'' ra p m la ok rb p' m' lb r p'' m'' lj (accepts intel a first page marks ra p m la ok)

pub ihex_joined_accepted : IhexJoinedAccepted
ihex_joined_accepted first a b page marks page' marks' page'' marks'' lp lm lp'' lm'' ra p m la ok rb p' m' lb r p'' m'' lj =
    exactly first a b page marks page' marks' page'' marks'' lp lm lp'' lm'' ra p m la ok rb p' m' lb r p'' m'' lj (accepts intel a first page marks ra p m la ok)

pub ihex_joined_with_one_start : IhexJoinedWithOneStart
ihex_joined_with_one_start first a b page marks page' marks' page'' marks'' lp lm lp'' lm'' ra p m la ok rb p' m' lb r p'' m'' lj =
    with_one_start first a b page marks page' marks' page'' marks'' lp lm lp'' lm'' ra p m la ok rb p' m' lb r p'' m'' lj (accepts intel a first page marks ra p m la ok)

-- ---- page and marks

-- a load of B upon A's page, by the page that A's contract names
upon_page : (first : ℕ) (a b page marks marks' p m : List ℕ) (ra : LoadNumbers) → IhexLoad a first page marks ra p m
    → load b first p marks' ≡ load b first (load a first page marks).page marks'
upon_page first a b page marks marks' p m ra la = ap (λ (q : List ℕ). load b first q marks') la.page_is

pub ihex_one_upon_another : IhexOneUponAnother
ihex_one_upon_another first a b page marks marks' marks'' lm ra p m la ok rb p' m' lb ok' agree r p'' m'' lj =
    let (ta, ea) = accepts intel a first page marks ra p m la ok in
    let (tb, eb) = accepts intel b first p marks' rb p' m' lb ok' in
    let on = upon_page first a b page marks marks' p m ra la in
    let a_is : ra ≡ load_numbers (accepted ta) = la.numbers ∙ ap load_numbers ea in
    let b_is : rb ≡ load_numbers (accepted tb) = lb.numbers ∙ ap load_numbers eb in
    let (answer, upon) = one_upon_another first a b page marks marks' marks'' ta tb lm ea (ap (λ (z : Loaded). z.answer) (sym on) ∙ eb) (from_numbers ta tb (rw (a_is, b_is) at agree)) in
    let j-is : r ≡ load_numbers (accepted (together ta tb)) = lj.numbers ∙ ap load_numbers answer in (
      ap (λ (n : LoadNumbers). n.code) j-is,
      ap (λ (n : LoadNumbers). n.a) j-is ∙ sym (ap₂ (λ (x y : LoadNumbers). x.a + y.a) a_is b_is),
      lj.page_is ∙ upon.pages ∙ ap (λ (z : Loaded). z.page) (sym on) ∙ sym lb.page_is,
      λ i. rw (lj.marks_is, la.marks_is, lb.marks_is, on) (upon.marks i),
    )

pub ihex_what_a_panel_sees : IhexWhatAPanelSees
ihex_what_a_panel_sees first a b page marks marks' ra p m la ok rb p' m' lb ok' i h =
    let (ta, ea) = accepts intel a first page marks ra p m la ok in
    let (tb, eb) = accepts intel b first p marks' rb p' m' lb ok' in
    let on = upon_page first a b page marks marks' p m ra la in
    rw (lb.page_is, on) (what_a_panel_sees first a b page marks marks' marks ta tb refl ea (ap (λ (z : Loaded). z.answer) (sym on) ∙ eb) i h).0

pub ihex_either_grouping : IhexEitherGrouping
ihex_either_grouping a b c first page marks ra p m la ok first' page' marks' rb p' m' lb ok' =
    let (ta, ea) = accepts intel a first page marks ra p m la ok in
    let (tb, eb) = accepts intel b first' page' marks' rb p' m' lb ok' in
    either_grouping a b c first page marks ta first' page' marks' tb ea eb

-- ---- nothing stated

pub ihex_nothing_stated : IhexNothingStated
ihex_nothing_stated text first page marks r p m x ok s =
    let (t, e) = accepts intel text first page marks r p m x ok in
    rw (x.page_is, x.marks_is) (nothing_stated text first page marks t e s)

-- what is left, in numbers
module _ (text : List ℕ) (first : ℕ) (page marks : List ℕ) (r : LoadNumbers) (p m : List ℕ) (x : IhexLoad text first page marks r p m) where
  abbrev NothingDone : Type 0
  NothingDone = (r ≡ six OK 0 0 0 0 0) × (p ≡ page) × (m ≡ replicate (length marks) 0)

  in_numbers : load text first page marks ≡ record { answer = accepted (record { records = 0; start = none }); page = page; marks = replicate (length marks) 0 } → NothingDone
  in_numbers e = rw (x.numbers, x.page_is, x.marks_is, e) (refl, refl, refl)

  -- a window that is not refused is fit
  unless_refused : {v : Verdict} → Why text first page marks v → v ≡ (load text first page marks).answer → r.code ≢ BAD_WINDOW → (text ≡ end_record) ⊎ (text ≡ end_record ++ (LF ∷ [])) → NothingDone
  unless_refused (bad_one w) e h is = absurd (h (ap (λ (n : LoadNumbers). n.code) (x.numbers ∙ ap load_numbers (sym e))))
  unless_refused (no_end w all) e h (inl q) = in_numbers (ap (λ (t : List ℕ). load t first page marks) q ∙ (end_alone first page marks w).0)
  unless_refused (no_end w all) e h (inr q) = in_numbers (ap (λ (t : List ℕ). load t first page marks) q ∙ (end_alone first page marks w).1)
  unless_refused (at_line n v w d) e h (inl q) = in_numbers (ap (λ (t : List ℕ). load t first page marks) q ∙ (end_alone first page marks w).0)
  unless_refused (at_line n v w d) e h (inr q) = in_numbers (ap (λ (t : List ℕ). load t first page marks) q ∙ (end_alone first page marks w).1)

pub ihex_end_alone : IhexEndAlone
ihex_end_alone text is first page marks r p m x h = unless_refused text first page marks r p m x (reasons text first page marks) refl h is
