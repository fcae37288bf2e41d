-- A tail that is fed: from nothing on the machine comes to nothing, so nothing is staged, and what is decided has met nothing.
-- Assumes nothing.
use Rattle.std.proofs.Common.{◌≡◌, ℕ, ◌%◌, ◌^◌, Bool, true, false, eqb, ◌⊎◌, List, [], ◌∷◌, length, sym, refl, ap, ◌∙◌, subst, inl, inr, arith}
use Rattle.marks.specs.Claims.{Bytes}
use Rattle.std.specs.Prelude.{if◌then◌else◌}
use Rattle.record.specs.Refusals.{missing_end_of_file_record}
use Rattle.reader.specs.Lines.{LF}
use Rattle.chunks.specs.Begun.{Begun, nothing, is_empty, stands_for, with_CR, add, counted}
use Rattle.steps.specs.declared.LoaderError.TheVariants.{MissingEndOfFileRecord}
use Rattle.steps.specs.Aliases.{Loading}
use Rattle.steps.specs.Steps.{Placement, nothing_yet, Verdict, accepted, refused, turn}
use Rattle.steps.specs.Source.{Source}
use Rattle.steps.specs.Taken.{Standing, Went, on, stopped, acted, at_line}
use Rattle.steps.specs.Told.{told_loading}
use Rattle.steps.proofs.Told.{told_apart}
use Rattle.window.specs.Window.{unfit, within, window}
use Rattle.window.specs.Promises.{Painted}
use Rattle.window.proofs.Loads.{painted_nothing}
use Rattle.window.proofs.Taking.{painted_once}
use Rattle.intel.specs.Placing.{intel}
use Rattle.srecload.specs.Placing.{s_records}
use Rattle.intake.specs.declared.Kind.{Kind}
use Rattle.intake.specs.declared.Kind.TheVariants.{Hex, SRecords}
use Rattle.intake.specs.declared.Intake.{Intake}
use Rattle.intake.specs.declared.Reply.{Reply}
use Rattle.intake.specs.declared.Reply.TheVariants.{WantsMore, Decided, CarryTooSmall}
use Rattle.intake.specs.Aliases.{Ending}
use Rattle.intake.specs.Machine.{Fed, wants_more, decided, after_line, takes, fed, ended_by, stated_by, ended}
use Rattle.intake.specs.Past.{ends_text, past}
use Rattle.intake.specs.Ways.{tail_standing, way_of}
use Rattle.intake.specs.Helpers.{nothing_met}
use Rattle.intake.specs.Intake.{begun_in, spoilt, FeedsBy, FeedsSo}
use Rattle.intake.specs.Ending.{Ends, EndsSo, EndedSo}
use Rattle.intake.specs.Claims.{FeedsATail, FinishesATail}
use Rattle.std.specs.Prelude.{None, Some}
use Rattle.steps.specs.Aliases.{refuse}

-- ---- the machine

-- where a tail stands, from its beginning to its end
abbrev bare : Standing Unit
bare = record { state = tt; tally = nothing_yet; stated = [] }

module _ {S : Type 0} (src : Source S) (inside : ℕ → Bool) where
  abbrev by_end : (at_end : Bool) → Went Unit
  by_end at_end = if at_end then stopped (accepted nothing_yet) [] else on bare

  line_bare : (n : ℕ) (line : List ℕ) → takes (past src) inside n bare line ≡ by_end (ends_text src line)
  unfolding takes at_line acted turn
  line_bare n line = go (ends_text src line) refl
    where
      go : (b : Bool) → ends_text src line ≡ b → takes (past src) inside n bare line ≡ by_end b
      go true e = rw e
      go false e = rw e

  abbrev Bare : Fed Unit → Type 0
  Bare (wants_more n st b) = st ≡ bare
  Bare (decided n v ps left) = (v ≡ accepted nothing_yet) × (ps ≡ [])

  fed_bare : (bytes : List ℕ) (n : ℕ) (b : Begun) → Bare (fed (takes (past src) inside) n bare b bytes)
  unfolding fed
  fed_bare [] n b = refl
  fed_bare (c ∷ bytes) n b = go (eqb c LF) (is_empty b.kept.bytes) (fed_bare bytes)
    where
      later : (n : ℕ) (st : Standing Unit) → Fed Unit
      later n st = fed (takes (past src) inside) n st nothing bytes

      go : (lf e : Bool) → ((m : ℕ) (d : Begun) → Bare (fed (takes (past src) inside) m bare d bytes))
          → Bare (if lf then (if e then later (counted n) bare else after_line (counted n) bytes (takes (past src) inside (counted n) bare (stands_for b.kept)) (later (counted n)))
          else fed (takes (past src) inside) n bare (add b c) bytes)
      go true true ih = ih (counted n) nothing
      go true false ih = rw (line_bare (counted n) (stands_for b.kept)) (at_end (ends_text src (stands_for b.kept)))
        where
          at_end : (x : Bool) → Bare (after_line (counted n) bytes (by_end x) (later (counted n)))
          at_end true = (refl, refl)
          at_end false = ih (counted n) nothing
      go false e ih = ih n (add b c)

  -- the end: what is begun is passed over too
  abbrev BareEnd : Went Unit → Type 0
  BareEnd w = ((ended_by w ≡ accepted nothing_yet) ⊎ (ended_by w ≡ refused missing_end_of_file_record 0)) × (stated_by w ≡ [])

  ended_bare : (n : ℕ) (b : Begun) → BareEnd (ended (takes (past src) inside) n bare b)
  unfolding ended
  ended_bare n b = go (is_empty (with_CR b).bytes)
    where
      at_end : (x : Bool) → BareEnd (by_end x)
      at_end true = (inl refl, refl)
      at_end false = (inr refl, refl)

      go : (e : Bool) → BareEnd (if e then on bare else takes (past src) inside (counted n) bare (stands_for (with_CR b)))
      go true = (inr refl, refl)
      go false = rw (line_bare (counted n) (stands_for (with_CR b))) (at_end (ends_text src (stands_for (with_CR b))))

-- ---- the code

module _ (first : ℕ) (stage stated : List ℕ) (few : Bytes stated) where
  -- with nothing stated, page and marks stay
  unpainted : (ps : List Placement) (p m : List ℕ) → ps ≡ [] → Painted (window first (length stage)) ps stage stated p m → (p ≡ stage) × (m ≡ stated)
  unpainted ps p m e x = painted_once (window first (length stage)) ps stage stated p stage m stated few x (rw e (painted_nothing _ stage stated))

  -- what is returned of a tail, and staged
  abbrev Replies : Reply → (p m : List ℕ) → Type 0
  Replies r p m = (p ≡ stage) × (m ≡ stated) × ((l : Loading) (used : ℕ) → r ≡ Decided l used → l ≡ nothing_met)

  replies : {S : Type 0} (src : Source S) (s : Intake) (chunk carry : List ℕ) (r : Reply) (c p m : List ℕ)
      → FeedsBy (past src) tail_standing first s chunk carry stage stated r c p m → Replies r p m
  replies src s chunk carry (WantsMore s') c p m x =
      let e = subst (Bare src (within first (length stage))) x.comes_to (fed_bare src (within first (length stage)) chunk (s.line % 2 ^ 64) (begun_in s carry)) in
      let (pages, marks) = unpainted x.placements p m (ap (λ (st : Standing Unit). st.stated) e) x.paints in
      (pages, marks, λ l used q. let z : ◌≡◌ {A = ℕ} 0 1 = cc in absurd (omega arith))
  replies src s chunk carry (Decided l used) c p m x =
      let (v, ps) = subst (Bare src (within first (length stage))) x.comes_to (fed_bare src (within first (length stage)) chunk (s.line % 2 ^ 64) (begun_in s carry)) in
      let (pages, marks) = unpainted x.placements p m ps x.paints in
      (pages, marks, λ l' used' q. let same : l ≡ l' = cc in sym same ∙ told_apart l nothing_met v)
  replies src s chunk carry CarryTooSmall c p m x = absurd x

  replies_so : (kind : Kind) (s : Intake) (chunk carry : List ℕ) (r : Reply) (c p m : List ℕ) → FeedsSo (way_of kind true) first s chunk carry stage stated r c p m → Replies r p m
  replies_so Hex s chunk carry r c p m x = replies intel s chunk carry r c p m x.0
  replies_so SRecords s chunk carry r c p m x = replies s_records s chunk carry r c p m x.0

  abbrev Answers : Loading → (p m : List ℕ) → Type 0
  Answers l p m = (p ≡ stage) × (m ≡ stated) × ((l ≡ nothing_met) ⊎ (l ≡ refuse MissingEndOfFileRecord 0))

  answers : {S : Type 0} (src : Source S) (s : Intake) (carry : List ℕ) (l : Loading) (p m : List ℕ) → Ends (past src) tail_standing first s carry stage stated l p m → Answers l p m
  answers src s carry l p m x =
      let (v, ps) = ended_bare src (within first (length stage)) (s.line % 2 ^ 64) (begun_in s carry) in
      let (pages, marks) = unpainted _ p m ps x.paints in
      (pages, marks, either _ x.answer v)
    where
      either : (v : Verdict) → told_loading l ≡ v → (v ≡ accepted nothing_yet) ⊎ (v ≡ refused missing_end_of_file_record 0) → (l ≡ nothing_met) ⊎ (l ≡ refuse MissingEndOfFileRecord 0)
      either v a (inl e) = inl (told_apart l nothing_met (a ∙ e))
      either v a (inr e) = inr (told_apart l (refuse MissingEndOfFileRecord 0) (a ∙ e))

  answers_so : (kind : Kind) (s : Intake) (carry : List ℕ) (l : Loading) (p m : List ℕ) → EndsSo (way_of kind true) first s carry stage stated l p m → Answers l p m
  answers_so Hex s carry l p m x = answers intel s carry l p m x
  answers_so SRecords s carry l p m x = answers s_records s carry l p m x

pub feeds_a_tail : FeedsATail
feeds_a_tail s chunk carry first stage stated r c p m few tail x = go (spoilt s carry) refl (unfit first (length stage) (length stated)) refl
  where
    go : (t : Bool) → spoilt s carry ≡ t → (u : Bool) → unfit first (length stage) (length stated) ≡ u
        → (p ≡ stage) × (m ≡ stated) × ((l : Loading) (used : ℕ) → unfit first (length stage) (length stated) ≡ false → r ≡ Decided l used → l ≡ nothing_met)
    go true e u f =
        let (is, _, pages, marks) = x.small e in
        (pages, marks, λ l used g q. let z : ◌≡◌ {A = ℕ} 0 1 = cc in absurd (omega arith))
    go false e true f =
        let (is, _, pages, marks) = x.bad_window e f in
        (pages, marks, λ l used g q. let z : ◌≡◌ {A = ℕ} 0 1 = cc in absurd (omega arith))
    go false e false f =
        let (pages, marks, met) =
        replies_so first stage stated few s.kind s chunk carry r c p m (subst (λ (b : Bool). FeedsSo (way_of s.kind b) first s chunk carry stage stated r c p m) tail (x.feeds e f)) in
        (pages, marks, λ l used g q. met l used q)

pub finishes_a_tail : FinishesATail
finishes_a_tail s carry first stage stated r c p m few tail x = go (spoilt s carry) refl (unfit first (length stage) (length stated)) refl
  where
    Answer : Type 0
    Answer = (p ≡ stage) × (m ≡ stated)
        × ((l : Loading) → unfit first (length stage) (length stated) ≡ false → r ≡ Some l → (l ≡ nothing_met) ⊎ (l ≡ refuse MissingEndOfFileRecord 0))

    by_answer : (r' : Ending) → r ≡ r' → EndedSo first s carry stage stated r' p m → Answer
    by_answer (Some l) is y =
        let (pages, marks, either) =
        answers_so first stage stated few s.kind s carry l p m (subst (λ (b : Bool). EndsSo (way_of s.kind b) first s carry stage stated l p m) tail y) in
        (pages, marks, λ l' g q. let same : l ≡ l' = cc in subst (λ (y : Loading). (y ≡ nothing_met) ⊎ (y ≡ refuse MissingEndOfFileRecord 0)) same either)
    by_answer None is y = absurd y

    go : (t : Bool) → spoilt s carry ≡ t → (u : Bool) → unfit first (length stage) (length stated) ≡ u → Answer
    go true e u f =
        let (is, _, pages, marks) = x.small e in
        (pages, marks, λ l g q. let z : ◌≡◌ {A = ℕ} 0 1 = cc in absurd (omega arith))
    go false e true f =
        let (is, _, pages, marks) = x.bad_window e f in
        (pages, marks, λ l g q. let z : ◌≡◌ {A = ℕ} 0 1 = cc in absurd (omega arith))
    go false e false f = by_answer r refl (x.ends e f)
