-- The claims of joining. The joined text's lines are A's before its end, the line that resets, and B's (`Cut`); so its steps are A's before its end
-- and then B's on later lines, whose fate after A's tally is known (`Join`).
-- Assumes nothing.
use mathlib.Core.Path.{◌≡◌, refl, sym, ap, ap₂, ◌∙◌}
use mathlib.Core.Logic.{◌≢◌, ◌⊎◌, inl, inr}
use Prim.Native.Nat.{ℕ, suc, ◌+◌, ◌<◌, max}
use native.Mathlib.Nat.{add-zero}
use native.Mathlib.Omega.{arith}
use mathlib.Core.Bool.{Bool, true, false}
use mathlib.Core.Option.{Option, none, some}
use mathlib.Core.List.Memᴰ
use mathlib.Core.List.{List, [], ◌∷◌, ◌++◌, map, append_assoc, append-nil, Memᴰ}
use lib.ListN.{length, get_or}
use Rattle.digits.specs.Common.{or_else}
use Rattle.record.specs.Refusals.{Refusal, start_conflict}
use Rattle.record.proofs.Choices.{or_else_none}
use Rattle.reader.specs.Lines.{LF, lines}
use Rattle.reader.proofs.Cutting.{lines_closed}
use Rattle.steps.specs.Steps.{Placement, Start, starts, finishes, Step, step, Tally, nothing_yet, Verdict, accepted, refused, by, decision, verdict, stated}
use Rattle.steps.specs.Source.{Source, steps, steps_of}
use Rattle.steps.specs.Sites.{last_at, mark, mark_shown, painted, marked, Shown, Loaded, Room, stopping_by, load}
use Rattle.steps.specs.Join.{ends, lines_ahead, before_end, joined, state_after, Ends, NoneEnds, HasEnd, WholeLines, Joinable, together, Agreeing, JoinedAccepted, MeetsAnother, after_verdict, AnsweredAfter, as_B, starts_differ, JoinedAnswered, JoinedOneAnswer, NoStart, JoinedWithOneStart, JoinedStates, OneUponAnother, EitherGrouping, AcceptedHasEnd, NothingStated}
use Rattle.steps.proofs.Places.{marked_at, painted_append, painted_none, last_append}
use Rattle.steps.proofs.Sites.{load_answer, accepted_load, accepted_by}
use Rattle.steps.proofs.Firsts.{every_at}
use Rattle.steps.proofs.Cut.{ends_there, not_there, as_closed, before_end_made_so, before_end_only_so, lines_ahead_counts}
use Rattle.steps.proofs.Join.{no_end_lines, Handed, handed, no_acceptance, one_line_meets, Fate, alike, conflict, after_tally, stated_anywhere, steps_append, state_append, none_append}

-- ---- an accepted text has an end

module _ {S : Type 0} (src : Source S) where
  record Somewhere (s : S) (ls : List (List ℕ)) : Type 0 where
    before : List (List ℕ)
    line : List ℕ
    later : List (List ℕ)
    whole : ls ≡ before ++ (line ∷ later)
    is_end : Ends src (state_after src s before) line

  look : (s : S) (ls : List (List ℕ)) → Somewhere s ls ⊎ NoneEnds src s ls
  unfolding state_after
  look s [] = inr tt
  look s ([] ∷ ls) = go (look s ls)
    where
      go : Somewhere s ls ⊎ NoneEnds src s ls → Somewhere s ([] ∷ ls) ⊎ NoneEnds src s ([] ∷ ls)
      go (inl f) = inl (record { before = [] ∷ f.before; line = f.line; later = f.later; whole = ap (λ (x : List (List ℕ)). [] ∷ x) f.whole; is_end = f.is_end })
      go (inr n) = inr n
  look s ((c ∷ l) ∷ ls) = go (ends (src.act s (c ∷ l))) refl (look (src.next s (c ∷ l)) ls)
    where
      go : (b : Bool) → ends (src.act s (c ∷ l)) ≡ b → Somewhere (src.next s (c ∷ l)) ls ⊎ NoneEnds src (src.next s (c ∷ l)) ls
          → Somewhere s ((c ∷ l) ∷ ls) ⊎ NoneEnds src s ((c ∷ l) ∷ ls)
      go true e h = inl (record { before = []; line = c ∷ l; later = ls; whole = refl; is_end = ends_there (src.act s (c ∷ l)) e })
      go false e (inl f) =
          inl (record { before = (c ∷ l) ∷ f.before; line = f.line; later = f.later; whole = ap (λ (x : List (List ℕ)). (c ∷ l) ∷ x) f.whole; is_end = f.is_end })
      go false e (inr n) = inr (not_there (src.act s (c ∷ l)) e, n)

  accepted_has : (inside : ℕ → Bool) (text : List ℕ) (k : Tally) (n : ℕ) → decision inside nothing_yet (steps_of src text) ≡ some (by n (accepted k)) → HasEnd src text
  unfolding steps_of
  accepted_has inside text k n e = go (look src.beginning (lines text))
    where
      go : Somewhere src.beginning (lines text) ⊎ NoneEnds src src.beginning (lines text) → HasEnd src text
      go (inl f) = record { before = f.before; line = f.line; later = f.later; whole = f.whole; is_end = f.is_end }
      go (inr x) = absurd (no_acceptance inside (steps src src.beginning 1 (lines text)) nothing_yet k n (no_end_lines src src.beginning 1 (lines text) x) e)

-- ---- the joined text's lines and steps

module _ {S : Type 0} (src : Source S) (reset : List ℕ) (j : Joinable src reset) where
  -- a line with a byte
  with_a_byte : (r : List ℕ) → r ≢ [] → (s : S) (n : ℕ) (ls : List (List ℕ)) → steps src s n (r ∷ ls) ≡ map (step n) (src.act s r) ++ steps src (src.next s r) (suc n) ls
  unfolding steps
  with_a_byte [] h s n ls = absurd (h refl)
  with_a_byte (c ∷ r) h s n ls = refl

  after_reset : (r : List ℕ) → r ≢ [] → (s : S) (ls : List (List ℕ)) → state_after src s (r ∷ ls) ≡ state_after src (src.next s r) ls
  unfolding state_after
  after_reset [] h s ls = absurd (h refl)
  after_reset (c ∷ r) h s ls = refl

  none_reset : (r : List ℕ) → r ≢ [] → (s : S) (ls : List (List ℕ)) → (¬ Memᴰ finishes (src.act s r)) → NoneEnds src (src.next s r) ls → NoneEnds src s (r ∷ ls)
  none_reset [] h s ls x n = absurd (h refl)
  none_reset (c ∷ r) h s ls x n = (x, n)

  -- the lines of what stands before an end, and of what follows it in the joined text
  lines_joined : (front b : List ℕ) → WholeLines front → lines (front ++ (reset ++ (LF ∷ b))) ≡ lines front ++ (reset ∷ lines b)
  lines_joined front b w = lines_closed (as_closed front w) (reset ++ (LF ∷ b)) ∙ ap (λ (x : List (List ℕ)). lines front ++ x) (j.one_line b)

  -- A's steps before its end
  abbrev front_steps : (a : List ℕ) → List Step
  front_steps a = steps src src.beginning 1 (lines (before_end src a))

  joined_steps : (a b : List ℕ) → HasEnd src a
      → steps_of src (joined src reset a b) ≡ front_steps a ++ steps src src.beginning (suc (lines_ahead src a) + 1) (lines b)
  unfolding steps_of joined
  joined_steps a b h =
      let s = src.beginning in
      let front = before_end src a in
      let n = length (lines front) in
      let e : suc (1 + n) ≡ suc (lines_ahead src a) + 1 = omega (arith, lines_ahead_counts S src a h) in
      ap (steps src s 1) (lines_joined front b (before_end_made_so S src a h).whole_lines)
      ∙ steps_append src s 1 (lines front) (reset ∷ lines b)
      ∙ ap (λ (x : List Step). front_steps a ++ x)
      (with_a_byte reset j.has_a_byte (state_after src s (lines front)) (1 + n) (lines b)
      ∙ rw (j.silent (state_after src s (lines front)), j.back (state_after src s (lines front))) (ap (λ (m : ℕ). steps src s m (lines b)) e))

  -- a line that ends the text
  at_end : (line : List ℕ) (s : S) (n : ℕ) (ls : List (List ℕ)) → Ends src s line → steps src s n (line ∷ ls) ≡ step n finishes ∷ steps src (src.next s line) (suc n) ls
  unfolding steps
  at_end [] s n ls e = absurd e
  at_end (c ∷ l) s n ls e = rw (j.plain_end s (c ∷ l) e)

  -- A's steps: those, its end, and others
  steps_cut : (a : List ℕ) → HasEnd src a → (line : ℕ) × (others : List Step) × (steps_of src a ≡ front_steps a ++ (step line finishes ∷ others))
  unfolding steps_of
  steps_cut a h =
      let k = before_end_made_so S src a h in
      let front = before_end src a in
      let s = src.beginning in
      let line = 1 + length (lines front) in
      let at = state_after src s (lines front) in (
        line,
        steps src (src.next at k.line) (suc line) k.later,
        ap (λ (x : List ℕ). steps src s 1 (lines x)) k.whole
            ∙ ap (steps src s 1) (lines_closed (as_closed front k.whole_lines) k.rest ∙ ap (λ (x : List (List ℕ)). lines front ++ x) k.next)
            ∙ steps_append src s 1 (lines front) (k.line ∷ k.later)
            ∙ ap (λ (x : List Step). front_steps a ++ x) (at_end k.line at line k.later k.is_end),
      )

  -- ---- decided and stated

  -- A's steps before its end hand A's tally on
  module _ (inside : ℕ → Bool) (a : List ℕ) (ta : Tally) (n : ℕ) (e : decision inside nothing_yet (steps_of src a) ≡ some (by n (accepted ta))) where
    end_of : HasEnd src a
    end_of = accepted_has src inside a ta n e

    handed_on : Handed inside nothing_yet ta (front_steps a)
    handed_on =
        let (line, others, cut) = steps_cut a end_of in
        handed inside (front_steps a) others line n nothing_yet ta
        (no_end_lines src src.beginning 1 (lines (before_end src a)) (before_end_made_so S src a end_of).none_ends) (ap (decision inside nothing_yet) (sym cut) ∙ e)

    abbrev later_steps : (b : List ℕ) → List Step
    later_steps b = steps src src.beginning (suc (lines_ahead src a) + 1) (lines b)

    pub decided_after : (b : List ℕ) → verdict (decision inside nothing_yet (steps_of src (joined src reset a b))) ≡ verdict (decision inside (together ta nothing_yet) (later_steps b))
    decided_after b =
        let same : ta ≡ together ta nothing_yet = λ i. record { records = sym (add-zero ta.records) i; start = sym (or_else_none ta.start) i } in
        ap (λ (s : List Step). verdict (decision inside nothing_yet s)) (joined_steps a b end_of)
        ∙ ap verdict (handed_on.decides (later_steps b))
        ∙ ap (λ (t : Tally). verdict (decision inside t (later_steps b))) same

    pub fate_after : (b : List ℕ) → Fate inside (suc (lines_ahead src a)) ta nothing_yet (later_steps b) (steps_of src b)
    unfolding steps_of
    fate_after b = after_tally inside (suc (lines_ahead src a)) ta src j.no_count src.beginning 0 (lines b) nothing_yet (agree ta.start)
      where
        agree : (o : Option Start) → Agreeing o none
        agree none = tt
        agree (some s) = tt

    pub stated_after : (b : List ℕ) → stated (steps_of src (joined src reset a b)) ≡ stated (steps_of src a) ++ stated (steps_of src b)
    unfolding steps_of stated
    stated_after b =
        let (line, others, cut) = steps_cut a end_of in
        let own : stated (steps_of src a) ≡ stated (front_steps a) = ap stated cut ∙ handed_on.states (step line finishes ∷ others) ∙ append-nil (stated (front_steps a)) in
        ap stated (joined_steps a b end_of)
        ∙ handed_on.states (steps src src.beginning (suc (lines_ahead src a) + 1) (lines b))
        ∙ ap₂ (λ (x y : List Placement). x ++ y) (sym own) (stated_anywhere src src.beginning (suc (lines_ahead src a) + 1) 1 (lines b))

-- ---- the claims: answers

module _ {S : Type 0} (src : Source S) (room : Room) (text page marks : List ℕ) (k : Tally) (e : (load src room text page marks).answer ≡ accepted k) where
  pub accepting : (n : ℕ) × (decision room.inside nothing_yet (steps_of src text) ≡ some (by n (accepted k)))
  accepting = accepted_by room.fault room.inside (steps_of src text) k (sym (load_answer src room text page marks) ∙ e)

pub accepted_has_end : AcceptedHasEnd
accepted_has_end S src room text page marks k e =
    let (n, d) = accepting src room text page marks k e in accepted_has src room.inside text k n d

pub joined_states : JoinedStates
joined_states S src reset j room a b page marks ta e =
    let (n, d) = accepting src room a page marks ta e in stated_after src reset j room.inside a ta n d b

-- the answer to the joined text, from B's
data Came (k : ℕ) (ta : Tally) (meets : (n : ℕ) → Type 0) (vb vj : Verdict) : Type 0 where
  came_alike : ((n : ℕ) → ¬ meets n) → vj ≡ after_verdict k ta vb → ((tb : Tally) → vb ≡ accepted tb → Agreeing ta.start tb.start) → Came k ta meets vb vj
  came_apart : (n : ℕ) → meets n → vj ≡ refused start_conflict (k + n) → ((tb : Tally) → vb ≡ accepted tb → Agreeing ta.start tb.start → ⊥)
      → Came k ta meets vb vj

module _ {S : Type 0} (src : Source S) (reset : List ℕ) (j : Joinable src reset) (room : Room) (a b page marks : List ℕ) (ta : Tally)
    (e : (load src room a page marks).answer ≡ accepted ta) where
  came : Came (suc (lines_ahead src a)) ta (MeetsAnother src room ta b) (load src room b page marks).answer (load src room (joined src reset a b) page marks).answer
  unfolding stopping_by verdict
  came = rw (load_answer src room b page marks, load_answer src room (joined src reset a b) page marks) (go room.fault (sym (load_answer src room a page marks) ∙ e))
    where
      go : (fault : Option Refusal) → verdict (stopping_by fault room.inside (steps_of src a)) ≡ accepted ta
          → Came (suc (lines_ahead src a)) ta (MeetsAnother src room ta b) (verdict (stopping_by fault room.inside (steps_of src b)))
          (verdict (stopping_by fault room.inside (steps_of src (joined src reset a b))))
      go (some r) q = let z : ◌≡◌ {A = ℕ} 0 1 = cc in absurd (omega arith)
      go none q =
          let (n, d) = accepting src room a page marks ta e in
          by_fate (decided_after src reset j room.inside a ta n d b) (fate_after src reset j room.inside a ta n d b)
        where
          by_fate : {vj : Verdict} {later : List Step} → vj ≡ verdict (decision room.inside (together ta nothing_yet) later)
              → Fate room.inside (suc (lines_ahead src a)) ta nothing_yet later (steps_of src b)
              → Came (suc (lines_ahead src a)) ta (MeetsAnother src room ta b) (verdict (decision room.inside nothing_yet (steps_of src b))) vj
          by_fate is (alike h x g) = came_alike h (is ∙ x) g
          by_fate is (conflict n f x g) = came_apart n f (is ∙ x) g

  abbrev vb : Verdict
  vb = (load src room b page marks).answer

  abbrev vj : Verdict
  vj = (load src room (joined src reset a b) page marks).answer

  answered : AnsweredAfter (suc (lines_ahead src a)) ta (MeetsAnother src room ta b) vb vj
  answered = go came
    where
      go : Came (suc (lines_ahead src a)) ta (MeetsAnother src room ta b) vb vj → AnsweredAfter (suc (lines_ahead src a)) ta (MeetsAnother src room ta b) vb vj
      go (came_alike h x g) = rw x (as_B h)
      go (came_apart n f x g) = rw x (starts_differ n f)

  one_answer : (v : Verdict) → AnsweredAfter (suc (lines_ahead src a)) ta (MeetsAnother src room ta b) vb v → v ≡ vj
  one_answer v w = go w came
    where
      go : {v : Verdict} → AnsweredAfter (suc (lines_ahead src a)) ta (MeetsAnother src room ta b) vb v → Came (suc (lines_ahead src a)) ta (MeetsAnother src room ta b) vb vj → v ≡ vj
      go (as_B h) (came_alike h' x g) = sym x
      go (as_B h) (came_apart n f x g) = absurd (h n f)
      go (starts_differ n f) (came_alike h x g) = absurd (h n f)
      go (starts_differ n f) (came_apart m f' x g) =
          ap (λ (i : ℕ). refused start_conflict (suc (lines_ahead src a) + i)) (one_line_meets room.inside ta nothing_yet (steps_of src b) n m f f') ∙ sym x

  is_accepted : (tj : Tally) → vj ≡ accepted tj → (tb : Tally) × (vb ≡ accepted tb) × Agreeing ta.start tb.start × (tj ≡ together ta tb)
  is_accepted tj p = go came
    where
      by_answer : (v : Verdict) → vb ≡ v → vj ≡ after_verdict (suc (lines_ahead src a)) ta vb → ((tb : Tally) → vb ≡ accepted tb → Agreeing ta.start tb.start)
          → (tb : Tally) × (vb ≡ accepted tb) × Agreeing ta.start tb.start × (tj ≡ together ta tb)
      by_answer (accepted tb) is x g =
          let y : accepted tj ≡ accepted (together ta tb) = sym p ∙ x ∙ ap (after_verdict (suc (lines_ahead src a)) ta) is in (tb, is, g tb is, cc)
      by_answer (refused r n) is x g =
          let y : accepted tj ≡ after_verdict (suc (lines_ahead src a)) ta (refused r n) = sym p ∙ x ∙ ap (after_verdict (suc (lines_ahead src a)) ta) is in
          let z : ◌≡◌ {A = ℕ} 0 1 = cc in absurd (omega arith)

      go : Came (suc (lines_ahead src a)) ta (MeetsAnother src room ta b) vb vj → (tb : Tally) × (vb ≡ accepted tb) × Agreeing ta.start tb.start × (tj ≡ together ta tb)
      go (came_alike h x g) = by_answer vb refl x g
      go (came_apart n f x g) = let y = sym p ∙ x in let z : ◌≡◌ {A = ℕ} 0 1 = cc in absurd (omega arith)

  accepts : (tb : Tally) → vb ≡ accepted tb → Agreeing ta.start tb.start → vj ≡ accepted (together ta tb)
  accepts tb is agree = go came
    where
      go : Came (suc (lines_ahead src a)) ta (MeetsAnother src room ta b) vb vj → vj ≡ accepted (together ta tb)
      go (came_alike h x g) = x ∙ ap (after_verdict (suc (lines_ahead src a)) ta) is
      go (came_apart n f x g) = absurd (g tb is agree)

pub joined_answered : JoinedAnswered
joined_answered S src reset j room a b page marks ta e = answered src reset j room a b page marks ta e

pub joined_one_answer : JoinedOneAnswer
joined_one_answer S src reset j room a b page marks ta v e w = one_answer src reset j room a b page marks ta e v w

pub joined_accepted : JoinedAccepted
joined_accepted S src reset j room a b page marks ta tj e =
    (is_accepted src reset j room a b page marks ta e tj, λ w. accepts src reset j room a b page marks ta e w.0 w.1 w.2 ∙ ap accepted (sym w.3))

pub joined_with_one_start : JoinedWithOneStart
joined_with_one_start S src reset j room a b page marks ta e one = sym (joined_one_answer S src reset j room a b page marks ta _ e (as_B (quiet one)))
  where
    quiet : (ta.start ≡ none) ⊎ NoStart (steps_of src b) → (n : ℕ) → ¬ MeetsAnother src room ta b n
    quiet (inl q) n f = let p = f.first_is in let z : ◌≡◌ {A = ℕ} 0 1 = cc in omega arith
    quiet (inr h) n f =
        every_at (λ (x : Step). (m : ℕ) (s : Start) → x ≢ step m (starts s)) f.before (step n (starts f.other)) f.later (rw f.whole at h) n f.other refl

-- ---- the claims: page and marks

mark_either : (o p : Option ℕ) → mark (or_else o p) ≡ max (mark p) (mark o)
unfolding mark
mark_either none none = refl
mark_either none (some y) = refl
mark_either (some x) none = refl
mark_either (some x) (some y) = refl

-- of a place that shows an address, whatever the old marks
union : (shows : Option ℕ) (a : ℕ) (ps qs : List Placement) (oa ob oj : ℕ) → shows ≡ some a
    → mark_shown shows (ps ++ qs) oj ≡ max (mark_shown shows ps oa) (mark_shown shows qs ob)
unfolding mark_shown
union none a ps qs oa ob oj e = let z : ◌≡◌ {A = ℕ} 0 1 = cc in absurd (omega arith)
union (some b) a ps qs oa ob oj e = rw (last_append b ps qs) (mark_either (last_at b qs) (last_at b ps))

-- what an accepted load leaves
module _ {S : Type 0} (src : Source S) (room : Room) (text page marks : List ℕ) (k : Tally) (e : (load src room text page marks).answer ≡ accepted k) where
  left : load src room text page marks
      ≡ record { answer = accepted k; page = painted room.site 0 (stated (steps_of src text)) page; marks = marked room.site 0 (stated (steps_of src text)) marks }
  left = accepted_load src room text page marks k (sym (load_answer src room text page marks) ∙ e)

  mark_left : (i : ℕ) → i < length marks → get_or (load src room text page marks).marks i 0 ≡ mark_shown (room.site i) (stated (steps_of src text)) (get_or marks i 0)
  mark_left i h = ap (λ (l : Loaded). get_or l.marks i 0) left ∙ marked_at room.site (stated (steps_of src text)) marks i h

-- the answer does not go by page and marks
same_answer : {S : Type 0} (src : Source S) (room : Room) (text page marks page' marks' : List ℕ)
    → (load src room text page marks).answer ≡ (load src room text page' marks').answer
same_answer src room text page marks page' marks' = load_answer src room text page marks ∙ sym (load_answer src room text page' marks')

pub one_upon_another : OneUponAnother
one_upon_another S src reset j room a b page ma mb mj ta tb la-mj lb-mj ea eb agree = record { pages = pages; marks = marks }
  where
    states : stated (steps_of src (joined src reset a b)) ≡ stated (steps_of src a) ++ stated (steps_of src b)
    states = joined_states S src reset j room a b page ma ta ea

    ej : (load src room (joined src reset a b) page mj).answer ≡ accepted (together ta tb)
    ej =
        (joined_accepted S src reset j room a b page mj ta (together ta tb) (same_answer src room a page mj page ma ∙ ea)
        ).1 (tb, same_answer src room b page mj (load src room a page ma).page mb ∙ eb, agree, refl)

    pages : (load src room (joined src reset a b) page mj).page ≡ (load src room b (load src room a page ma).page mb).page
    pages =
        let site = room.site in
        ap (λ (l : Loaded). l.page) (left src room (joined src reset a b) page mj (together ta tb) ej)
        ∙ ap (λ (x : List Placement). painted site 0 x page) states ∙ painted_append site 0 (stated (steps_of src a)) (stated (steps_of src b)) page
        ∙ ap (λ (l : Loaded). painted site 0 (stated (steps_of src b)) l.page) (sym (left src room a page ma ta ea))
        ∙ ap (λ (l : Loaded). l.page) (sym (left src room b (load src room a page ma).page mb tb eb))

    marks : (i : ℕ) → i < length mj → Shown room.site i
        → get_or (load src room (joined src reset a b) page mj).marks i 0
        ≡ max (get_or (load src room a page ma).marks i 0) (get_or (load src room b (load src room a page ma).page mb).marks i 0)
    marks i h (address, shows) =
        mark_left src room (joined src reset a b) page mj (together ta tb) ej i h
        ∙ ap (λ (x : List Placement). mark_shown (room.site i) x (get_or mj i 0)) states
        ∙ union (room.site i) address (stated (steps_of src a)) (stated (steps_of src b)) (get_or ma i 0) (get_or mb i 0) (get_or mj i 0) shows
        ∙ sym (ap₂ max (mark_left src room a page ma ta ea i (omega arith)) (mark_left src room b (load src room a page ma).page mb tb eb i (omega arith)))

pub nothing_stated : NothingStated
unfolding mark_shown mark last_at
nothing_stated S src room text page marks k e s = (
  ap (λ (x : Loaded). x.page) (left src room text page marks k e) ∙ ap (λ (x : List Placement). painted room.site 0 x page) s ∙ painted_none room.site 0 page,
  λ i h shown. mark_left src room text page marks k e i h ∙ ap (λ (x : List Placement). mark_shown (room.site i) x (get_or marks i 0)) s
      ∙ clear (room.site i) shown.0 (get_or marks i 0) shown.1,
)
  where
    clear : (shows : Option ℕ) (a old : ℕ) → shows ≡ some a → mark_shown shows [] old ≡ 0
    clear none a old e = cc
    clear (some b) a old e = refl

-- ---- the claims: groupings

module _ {S : Type 0} (src : Source S) (reset : List ℕ) (j : Joinable src reset) where
  whole_lines_joined : (front back : List ℕ) → WholeLines back → WholeLines (front ++ (reset ++ (LF ∷ back)))
  whole_lines_joined front back (inl e) = inr (front ++ reset, rw e (sym (append_assoc front reset (LF ∷ []))))
  whole_lines_joined front back (inr (part, e)) = inr (front ++ (reset ++ (LF ∷ part)), rw e (again front reset part))
    where
      again : (x y z : List ℕ) → x ++ (y ++ (LF ∷ (z ++ (LF ∷ [])))) ≡ (x ++ (y ++ (LF ∷ z))) ++ (LF ∷ [])
      again x y z = sym (append_assoc x (y ++ (LF ∷ z)) (LF ∷ []) ∙ ap (λ (l : List ℕ). x ++ l) (append_assoc y (LF ∷ z) (LF ∷ [])))

  -- what stands before the end of a joined text
  before_joined : (a b : List ℕ) → HasEnd src a → HasEnd src b → before_end src a ++ (reset ++ (LF ∷ before_end src b)) ≡ before_end src (joined src reset a b)
  unfolding joined
  before_joined a b ha hb =
      let s = src.beginning in
      let ka = before_end_made_so S src a ha in
      let kb = before_end_made_so S src b hb in
      let pa = before_end src a in
      let pb = before_end src b in
      let at = state_after src s (lines pa) in
      let ls = lines_joined src reset j pa pb ka.whole_lines in
      let state : state_after src s (lines pa ++ (reset ∷ lines pb)) ≡ state_after src s (lines pb) =
      state_append src s (lines pa) (reset ∷ lines pb) ∙ after_reset src reset j reset j.has_a_byte at (lines pb)
      ∙ ap (λ (x : S). state_after src x (lines pb)) (j.back at) in
      before_end_only_so S src (pa ++ (reset ++ (LF ∷ b))) (pa ++ (reset ++ (LF ∷ pb))) (record {
        rest = kb.rest;
        whole = ap (λ (x : List ℕ). pa ++ (reset ++ (LF ∷ x))) kb.whole ∙ ap (λ (l : List ℕ). pa ++ l) (sym (append_assoc reset (LF ∷ pb) kb.rest)) ∙ sym (append_assoc pa (reset ++ (LF ∷ pb)) kb.rest);
        whole_lines = whole_lines_joined pa pb kb.whole_lines;
        none_ends = rw ls (none_append src s (lines pa) (reset ∷ lines pb) ka.none_ends
            (none_reset src reset j reset j.has_a_byte at (lines pb) (rw (j.silent at) (Memᴰ.not-nil)) (rw (j.back at) kb.none_ends)));
        line = kb.line;
        later = kb.later;
        next = kb.next;
        is_end = rw (ls, state) kb.is_end;
      })

pub either_grouping : EitherGrouping
unfolding joined
either_grouping S src reset j a b c ha hb =
    let pa = before_end src a in
    let pb = before_end src b in
    ap (λ (x : List ℕ). x ++ (reset ++ (LF ∷ c))) (sym (before_joined src reset j a b ha hb))
    ∙ append_assoc pa (reset ++ (LF ∷ pb)) (reset ++ (LF ∷ c))
    ∙ ap (λ (x : List ℕ). pa ++ x) (append_assoc reset (LF ∷ pb) (reset ++ (LF ∷ c)))
