-- A dump that is followed line by line is decided as its steps are, and at the same line.
-- Assumes nothing.
use Prim.Native.Nat.{ℕ, suc, ◌+◌, ◌≤◌, ◌<◌}
use mathlib.Core.Path.{◌≡◌, refl, sym, ap, ◌∙◌}
use mathlib.Core.Logic.{◌⊎◌, inl, inr}
use mathlib.Core.Bool.{Bool}
use mathlib.Core.Option.{none, some}
use mathlib.Core.List.{List, [], ◌∷◌, ◌++◌, append_assoc}
use native.Mathlib.Omega.{arith}
use lib.ListN.{length, take, drop}
use Rattle.steps.specs.Steps.{Placement, Action, Step, Tally, Verdict, accepted, by, decision, stated}
use Rattle.steps.specs.Source.{Source, steps}
use Rattle.steps.specs.Taken.{Standing, Went, on, stopped, at_line}
use Rattle.steps.proofs.Taken.{Acts, acts_are}
use Rattle.listen.specs.Listen.{Mode, within, said, reaching, mode_after, silent, first, hear, listen}

module _ {S : Type 0} (src : Source S) (inside : ℕ → Bool) where
  -- ---- lines and more lines

  pub listen_append : (m : Mode S) (ls more : List (List ℕ))
      → listen src inside m (ls ++ more) ≡ first (listen src inside m ls).says (listen src inside (listen src inside m ls).mode more)
  unfolding listen
  listen_append m [] more = refl
  listen_append m (line ∷ ls) more =
      let h = hear src inside m line in
      let g = listen src inside h.mode ls in
      ap (first h.says) (listen_append h.mode ls more)
      ∙ ap (λ ss. record { says = ss; mode = (listen src inside g.mode more).mode }) (sym (append_assoc h.says g.says (listen src inside g.mode more).says))

  -- ---- from within a dump, after n of its lines

  -- the steps of the lines from there on
  abbrev pub onward_steps : (n : ℕ) → Standing S → List (List ℕ) → List Step
  onward_steps n st ls = steps src st.state (suc n) ls

  -- no line decides
  pub record Waits (n : ℕ) (st : Standing S) (ls : List (List ℕ)) : Type 0 where
    pub lines : ℕ
    pub standing : Standing S
    pub heard : listen src inside (within n st) ls ≡ silent (within lines standing)
    pub undecided : decision inside st.tally (onward_steps n st ls) ≡ none

  -- the line decides with which the first k of them end, and this was stated, whatever follows
  pub record Decides (n : ℕ) (st : Standing S) (ls : List (List ℕ)) : Type 0 where
    pub k : ℕ
    pub some_line : 0 < k
    pub there : k ≤ length ls
    pub verdict : Verdict
    pub reached : List Placement
    pub heard : listen src inside (within n st) ls ≡ first (said verdict (reaching verdict reached) ∷ []) (listen src inside (mode_after verdict) (drop k ls))
    pub decides : (more : List (List ℕ)) → decision inside st.tally (onward_steps n st (take k ls ++ more)) ≡ some (by (n + k) verdict)
    pub states : (more : List (List ℕ)) (t : Tally) → verdict ≡ accepted t → st.stated ++ stated (onward_steps n st (take k ls ++ more)) ≡ reached

  abbrev pub Follows : (n : ℕ) → Standing S → List (List ℕ) → Type 0
  Follows n st ls = Waits n st ls ⊎ Decides n st ls

  -- an empty line is passed
  past_empty : (n : ℕ) (st : Standing S) (ls : List (List ℕ)) → Follows (suc n) st ls → Follows n st ([] ∷ ls)
  unfolding listen hear steps
  past_empty n st ls (inl w) = inl (record { lines = w.lines; standing = w.standing; heard = w.heard; undecided = w.undecided })
  past_empty n st ls (inr d) =
      inr
      (record {
        k = suc d.k;
        some_line = omega arith;
        there = omega (arith, d.there);
        verdict = d.verdict;
        reached = d.reached;
        heard = d.heard;
        decides = λ more. d.decides more ∙ ap (λ (j : ℕ). some (by j d.verdict)) (omega arith);
        states = d.states;
      })

  -- a line with a byte
  module _ (n : ℕ) (st : Standing S) (c : ℕ) (l : List ℕ) where
    abbrev pub acts : List Action
    acts = src.act st.state (c ∷ l)

    abbrev pub after : S
    after = src.next st.state (c ∷ l)

    -- what it comes to, whatever steps follow
    abbrev pub Comes : Went S → Type 0
    Comes w = (later : List Step) → Acts inside (suc n) after st.tally st.stated acts later w

    -- it lets the dump go on, to this standing
    module _ (st' : Standing S) (e : at_line src inside (suc n) st (c ∷ l) ≡ on st') (are : Comes (on st')) where
      pub same_decision : (ls : List (List ℕ)) → decision inside st.tally (onward_steps n st ((c ∷ l) ∷ ls)) ≡ decision inside st'.tally (onward_steps (suc n) st' ls)
      unfolding steps
      same_decision ls = (are (steps src after (suc (suc n)) ls)).1 ∙ ap (λ (s : S). decision inside st'.tally (steps src s (suc (suc n)) ls)) (sym (are []).0)

      same_stated : (ls : List (List ℕ)) → st.stated ++ stated (onward_steps n st ((c ∷ l) ∷ ls)) ≡ st'.stated ++ stated (onward_steps (suc n) st' ls)
      unfolding steps
      same_stated ls = (are (steps src after (suc (suc n)) ls)).2 ∙ ap (λ (s : S). st'.stated ++ stated (steps src s (suc (suc n)) ls)) (sym (are []).0)

      same_heard : (ls : List (List ℕ)) → listen src inside (within n st) ((c ∷ l) ∷ ls) ≡ listen src inside (within (suc n) st') ls
      unfolding listen hear
      same_heard ls = rw e

      past_line : (ls : List (List ℕ)) → Follows (suc n) st' ls → Follows n st ((c ∷ l) ∷ ls)
      past_line ls (inl w) =
          inl (record { lines = w.lines; standing = w.standing; heard = same_heard ls ∙ w.heard; undecided = same_decision ls ∙ w.undecided })
      past_line ls (inr d) =
          inr
          (record {
            k = suc d.k;
            some_line = omega arith;
            there = omega (arith, d.there);
            verdict = d.verdict;
            reached = d.reached;
            heard = same_heard ls ∙ d.heard;
            decides = λ more. same_decision (take d.k ls ++ more) ∙ d.decides more ∙ ap (λ (j : ℕ). some (by j d.verdict)) (omega arith);
            states = λ more t q. same_stated (take d.k ls ++ more) ∙ d.states more t q;
          })

  -- it decides
  at_stop : (n : ℕ) (st : Standing S) (c : ℕ) (l : List ℕ) (ls : List (List ℕ)) (v : Verdict) (ps : List Placement)
      → at_line src inside (suc n) st (c ∷ l) ≡ stopped v ps → Comes n st c l (stopped v ps) → Decides n st ((c ∷ l) ∷ ls)
  unfolding listen hear steps
  at_stop n st c l ls v ps e are =
      record {
        k = 1;
        some_line = omega arith;
        there = omega arith;
        verdict = v;
        reached = ps;
        heard = rw e;
        decides = λ more. (are (steps src (src.next st.state (c ∷ l)) (suc (suc n)) more)).0 ∙ ap (λ (j : ℕ). some (by j v)) (omega arith);
        states = λ more t q. (are (steps src (src.next st.state (c ∷ l)) (suc (suc n)) more)).1 t q;
      }

  pub follow : (ls : List (List ℕ)) (n : ℕ) (st : Standing S) → Follows n st ls
  unfolding listen steps decision at_line
  follow [] n st = inl (record { lines = n; standing = st; heard = refl; undecided = refl })
  follow ([] ∷ ls) n st = past_empty n st ls (follow ls (suc n) st)
  follow ((c ∷ l) ∷ ls) n st =
      go (at_line src inside (suc n) st (c ∷ l)) refl (λ later. acts_are inside (suc n) (src.next st.state (c ∷ l)) (src.act st.state (c ∷ l)) st.tally st.stated later)
      (follow ls (suc n))
    where
      go : (w : Went S) → at_line src inside (suc n) st (c ∷ l) ≡ w → Comes n st c l w → ((st' : Standing S) → Follows (suc n) st' ls) → Follows n st ((c ∷ l) ∷ ls)
      go (on st') e are ih = past_line n st c l st' e are ls (ih st')
      go (stopped v ps) e are ih = inr (at_stop n st c l ls v ps e are)
