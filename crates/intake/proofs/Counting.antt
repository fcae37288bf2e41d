-- A tally that can count no more is not met in a text of fewer than 2^64 - 1 bytes: a line counts one data record at most. So a load that refuses there
-- decides as one that does not.
-- Assumes nothing.
use Rattle.std.proofs.Common.{◌≡◌, ℕ, suc, ◌+◌, ◌-◌, ◌^◌, ◌<◌, ◌≤◌, Bool, true, false, eqb, List, [], ◌∷◌, ◌++◌, length, sym, refl, ap, ◌∙◌, subst, arith, ne_eqb}
use mathlib.Core.Option.{Option, none, some}
use Rattle.std.specs.Prelude.{if◌then◌else◌}
use Rattle.record.specs.Line.{Said, says, wrong, judge}
use Rattle.record.specs.Refusals.{start_conflict, count_mismatch}
use Rattle.record.specs.Meaning.{Meaning, data_at, end_of_file, extended_segment, start_segment, extended_linear, start_linear, meaning}
use Rattle.reader.specs.Lines.{LF}
use Rattle.chunks.specs.Begun.{Begun, nothing, is_empty, stands_for, with_CR, add, counted}
use Rattle.chunks.specs.Rows.{joined}
use Rattle.steps.specs.Steps.{Placement, Action, places, starts, counts, finishes, fails, Tally, refused, Turn, turn, outside, differ, at_data, started}
use Rattle.steps.specs.Steps as steps
use Rattle.steps.specs.Source.{Source}
use Rattle.steps.specs.Taken.{Standing, at_first, Went, on, stopped, placed_by, onward, acted, at_line}
use Rattle.srec.specs.Line as srec
use Rattle.intel.specs.Placing.{Base, does, act, intel_by, intel}
use Rattle.srecload.specs.Placing.{SMeaning, s_header, s_data, s_count, s_end, s_meaning, s_does, s_act, s_records}
use Rattle.intake.specs.Machine.{Taking, Fed, wants_more, decided, after_line, takes, fed, ended}
use Rattle.intake.specs.Counting.{CountsOne, after_chunk, fed_all}
use Rattle.intake.specs.Claims.{then_fed, AnyChunks, fed_text, fed_chunks, ChunksAsLoad}
use Rattle.intake.proofs.Claims.{any_cut, decides_as_load, ends_as_load, as_soon_as_it_came}

-- ---- a line

-- how many of these actions place bytes
abbrev placing : List Action → ℕ
placing [] = 0
placing (places what ∷ acts) = suc (placing acts)
placing (starts s ∷ acts) = placing acts
placing (counts c ∷ acts) = placing acts
placing (finishes ∷ acts) = placing acts
placing (fails r ∷ acts) = placing acts

-- if the load goes on, each of them has counted one data record at most
few : (inside : ℕ → Bool) (n : ℕ) (a : Action) (t t' : Tally) (k : ℕ) (acts : List Action) → turn inside t n a ≡ steps.on t'
    → k ≤ t'.records + placing acts → k ≤ t.records + placing (a ∷ acts)
unfolding turn
few inside n (places what) t t' k acts e h = go (outside inside what) e
  where
    go : (o : Option ℕ) → at_data n o t ≡ steps.on t' → k ≤ t.records + suc (placing acts)
    go none q = let r : steps.one_more t ≡ t' = cc in omega (arith, h, ap (λ (x : Tally). x.records) r)
    go (some a) q = let z : ◌≡◌ {A = ℕ} 0 1 = cc in absurd (omega arith)
few inside n (starts s) t t' k acts e h = go (differ t.start (some s)) e
  where
    go : (b : Bool) → (if b then steps.stop (refused start_conflict n) else steps.on (started s t)) ≡ steps.on t' → k ≤ t.records + placing acts
    go true q = let z : ◌≡◌ {A = ℕ} 0 1 = cc in absurd (omega arith)
    go false q = let r : started s t ≡ t' = cc in omega (arith, h, ap (λ (x : Tally). x.records) r)
few inside n (counts c) t t' k acts e h = go (eqb c t.records) e
  where
    go : (b : Bool) → (if b then steps.on t else steps.stop (refused (count_mismatch c t.records) n)) ≡ steps.on t' → k ≤ t.records + placing acts
    go true q = let r : t ≡ t' = cc in omega (arith, h, ap (λ (x : Tally). x.records) r)
    go false q = let z : ◌≡◌ {A = ℕ} 0 1 = cc in absurd (omega arith)
few inside n finishes t t' k acts e h = let z : ◌≡◌ {A = ℕ} 0 1 = cc in absurd (omega arith)
few inside n (fails r) t t' k acts e h = let z : ◌≡◌ {A = ℕ} 0 1 = cc in absurd (omega arith)

few_acted : {S : Type 0} (inside : ℕ → Bool) (n : ℕ) (s : S) (st : Standing S) (acts : List Action) (t : Tally) (ps : List Placement)
    → acted inside n s t ps acts ≡ on st → st.tally.records ≤ t.records + placing acts
unfolding acted
few_acted {S} inside n s st [] t ps e =
    let r : record { state = s; tally = t; stated = ps } ≡ st = cc in omega (arith, ap (λ (x : Standing S). x.tally.records) r)
few_acted {S} inside n s st (a ∷ acts) t ps e = go (turn inside t n a) refl e (λ t'. few_acted inside n s st acts t' (ps ++ placed_by a))
  where
    go : (x : Turn) → turn inside t n a ≡ x → onward x ps (λ t'. acted inside n s t' (ps ++ placed_by a) acts) ≡ on st
        → ((t' : Tally) → acted inside n s t' (ps ++ placed_by a) acts ≡ on st → st.tally.records ≤ t'.records + placing acts)
        → st.tally.records ≤ t.records + placing (a ∷ acts)
    go (steps.on t') q later ih = few inside n a t t' st.tally.records acts q (ih t' later)
    go (steps.stop v) q later ih = let z : ◌≡◌ {A = ℕ} 0 1 = cc in absurd (omega arith)

-- ---- both sources

intel_one : (base : Base) (said : Said) → placing (act base said) ≤ 1
unfolding act does
intel_one base (says kind address payload) = go (meaning kind address payload)
  where
    go : (m : Meaning) → placing (does base m) ≤ 1
    go (data_at offset bytes) = omega arith
    go end_of_file = omega arith
    go (extended_segment number) = omega arith
    go (start_segment cs ip) = omega arith
    go (extended_linear number) = omega arith
    go (start_linear number) = omega arith
intel_one base (wrong r) = omega arith

s_one : (said : Said) → placing (s_act said) ≤ 1
unfolding s_act s_does
s_one (says kind address payload) = go (s_meaning kind address payload)
  where
    go : (m : SMeaning) → placing (s_does m) ≤ 1
    go s_header = omega arith
    go (s_data address bytes) = omega arith
    go (s_count stated) = omega arith
    go (s_end address) = omega arith
s_one (wrong r) = omega arith

pub intel_counts_one : CountsOne intel
unfolding at_line intel_by
intel_counts_one inside n st st' line e =
    omega (arith, few_acted inside n _ st' (act st.state (judge line)) st.tally st.stated e, intel_one st.state (judge line))

pub s_records_counts_one : CountsOne s_records
unfolding at_line s_records
s_records_counts_one inside n st st' line e =
    omega (arith, few_acted inside n tt st' (s_act (srec.judge line)) st.tally st.stated e, s_one (srec.judge line))

-- ---- bytes

module _ {S : Type 0} (src : Source S) (inside : ℕ → Bool) where
  -- a tally that can count one more
  takes_so : (n : ℕ) (st : Standing S) (line : List ℕ) → st.tally.records < 2 ^ 64 - 1 → takes src inside n st line ≡ at_line src inside n st line
  unfolding takes
  takes_so n st line h = rw (ne_eqb st.tally.records (2 ^ 64 - 1) (omega (arith, h)))

  pub ended_so : (n : ℕ) (st : Standing S) (b : Begun) → st.tally.records < 2 ^ 64 - 1 → ended (takes src inside) n st b ≡ ended (at_line src inside) n st b
  unfolding ended
  ended_so n st b h = rw (takes_so (counted n) st (stands_for (with_CR b)) h)

  -- k data records at most were counted
  abbrev AtMost : (k : ℕ) → Fed S → Type 0
  AtMost k (wants_more n st b) = st.tally.records ≤ k
  AtMost k (decided n v ps left) = Unit

  -- what bytes come to either way, with k data records at most
  abbrev Alike : (k : ℕ) → (t f : Fed S) → Type 0
  Alike k t f = (k < 2 ^ 64 - 1 → t ≡ f) × AtMost k f

  more_at_most : (k l : ℕ) (f : Fed S) → k ≤ l → AtMost k f → AtMost l f
  more_at_most k l (wants_more n st b) h a = omega (arith, h, a)
  more_at_most k l (decided n v ps left) h a = tt

  more_alike : (k l : ℕ) (t f : Fed S) → k ≤ l → Alike k t f → Alike l t f
  more_alike k l t f h (same, most) = (λ small. same (omega (arith, h, small)), more_at_most k l f h most)

  module _ (one : CountsOne src) where
    alike : (bytes : List ℕ) (n : ℕ) (st : Standing S) (b : Begun)
        → Alike (st.tally.records + length bytes) (fed (takes src inside) n st b bytes) (fed (at_line src inside) n st b bytes)
    unfolding fed
    alike [] n st b = (λ small. refl, omega arith)
    alike (c ∷ bytes) n st b = go (eqb c LF) (is_empty b.kept.bytes) (alike bytes)
      where
        k : ℕ
        k = st.tally.records + suc (length bytes)

        line : List ℕ
        line = stands_for b.kept

        either : Taking S → (lf e : Bool) → Fed S
        either take lf e =
            if lf then (if e then fed take (counted n) st nothing bytes else after_line (counted n) bytes (take (counted n) st line) (λ st'. fed take (counted n) st' nothing bytes))
            else fed take n st (add b c) bytes

        go : (lf e : Bool)
            → ((m : ℕ) (s : Standing S) (d : Begun) → Alike (s.tally.records + length bytes) (fed (takes src inside) m s d bytes) (fed (at_line src inside) m s d bytes))
            → Alike k (either (takes src inside) lf e) (either (at_line src inside) lf e)
        go true true ih = more_alike _ k _ _ (omega arith) (ih (counted n) st nothing)
        go true false ih = at_end (at_line src inside (counted n) st line) refl
          where
            at_end : (w : Went S) → at_line src inside (counted n) st line ≡ w
                → Alike k (after_line (counted n) bytes (takes src inside (counted n) st line) (λ st'. fed (takes src inside) (counted n) st' nothing bytes))
                (after_line (counted n) bytes w (λ st'. fed (at_line src inside) (counted n) st' nothing bytes))
            at_end (on st') e =
                let (same, most) = more_alike _ k _ _ (omega (arith, one inside (counted n) st st' line e)) (ih (counted n) st' nothing) in
                (λ small. rw (takes_so (counted n) st line (omega (arith, small)), e) (same small), most)
            at_end (stopped v ps) e = (λ small. rw (takes_so (counted n) st line (omega (arith, small)), e), tt)
        go false e ih = more_alike _ k _ _ (omega arith) (ih n st (add b c))

    pub fed_so : (bytes : List ℕ) (n : ℕ) (st : Standing S) (b : Begun) → st.tally.records + length bytes < 2 ^ 64 - 1
        → fed (takes src inside) n st b bytes ≡ fed (at_line src inside) n st b bytes
    fed_so bytes n st b small = (alike bytes n st b).0 small

    pub few_fed : (bytes : List ℕ) (n : ℕ) (st : Standing S) (b : Begun) (n' : ℕ) (st' : Standing S) (b' : Begun)
        → fed (at_line src inside) n st b bytes ≡ wants_more n' st' b' → st'.tally.records ≤ st.tally.records + length bytes
    few_fed bytes n st b n' st' b' e = subst (λ (f : Fed S). AtMost (st.tally.records + length bytes) f) e (alike bytes n st b).1

-- ---- chunks

pub any_chunks : AnyChunks
unfolding fed_all joined fed
any_chunks S take n st b [] = refl
any_chunks S take n st b (chunk ∷ chunks) = go (fed take n st b chunk) (λ m s d. any_chunks S take m s d chunks) ∙ sym (any_cut S take n st b chunk (joined chunks))
  where
    go : (f : Fed S) → ((m : ℕ) (s : Standing S) (d : Begun) → fed_all take m s d chunks ≡ fed take m s d (joined chunks))
        → after_chunk f chunks (λ m s d. fed_all take m s d chunks) ≡ then_fed take f (joined chunks)
    go (wants_more m s d) ih = ih m s d
    go (decided m v ps left) ih = refl

pub chunks_as_load : ChunksAsLoad
chunks_as_load S src inside chunks one = (
  λ n v ps left kept short e. decides_as_load S src inside text n v ps left kept short (same short ∙ e),
  λ n st b kept short e.
      rw (ended_so src inside n st b (omega (arith, short, few_fed src inside one text 0 (at_first src) nothing n st b (same short ∙ e))))
      (ends_as_load S src inside text n st b kept short (same short ∙ e)),
  λ n st b kept short e m v d. as_soon_as_it_came S src inside text n st b kept short (same short ∙ e) m v d,
)
  where
    text : List ℕ
    text = joined chunks

    same : suc (length text) < 2 ^ 64 → fed_text src inside text ≡ fed_chunks src inside chunks
    same short = sym (fed_so src inside one text 0 (at_first src) nothing (omega (arith, short))) ∙ sym (any_chunks S (takes src inside) 0 (at_first src) nothing chunks)
