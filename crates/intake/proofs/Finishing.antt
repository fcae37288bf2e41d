-- The end of a text: the line that is begun is taken as its last, and where none is, the end record is missing.
-- Assumes nothing.
use Rattle.std.proofs.Common.{◌≡◌, ℕ, ◌%◌, ◌^◌, ◌≤◌, Bool, true, false, ◌||◌, List, [], length, sym, refl, ap, ◌∙◌, subst, ap₂, arith}
use mathlib.Core.Option.{none}
use Rattle.marks.specs.Claims.{Bytes}
use Rattle.std.specs.Prelude.{if◌then◌else◌}
use Rattle.digits.proofs.Tests.{if_true, if_false}
use Rattle.chunks.specs.Begun.{Kept, is_empty, stands_for, with_CR, counted}
use Rattle.chunks.specs.Next.{kept_in, too_small}
use Rattle.chunks.specs.Line.{kept_at, line_place, LineOutcome, found_line, Finds, LastLine}
use Rattle.chunks.specs.declared.Chunks.{Chunks}
use Rattle.chunks.specs.declared.LineReply.{LineReply}
use Rattle.chunks.specs.declared.LineReply.TheVariants.{InChunk, InCarry, UsedUp, Done, CarryTooSmall}
use Rattle.chunks.specs.declared.LineStep.{LineStep}
use Rattle.chunks.proofs.FirstTests.{no_last, last_on}
use Rattle.steps.specs.declared.LoaderError.TheVariants.{MissingEndOfFileRecord}
use Rattle.steps.specs.Aliases.{Loading}
use Rattle.steps.specs.declared.Tally.{Tally as CodeTally}
use Rattle.steps.specs.Steps.{Placement}
use Rattle.steps.specs.Source.{Source}
use Rattle.steps.specs.Taken.{Standing, Went, on}
use Rattle.steps.specs.Told.{told_loading}
use Rattle.window.specs.Window.{unfit, within, window}
use Rattle.window.specs.Promises.{Painted}
use Rattle.steps.proofs.Told.{told_apart}
use Rattle.window.proofs.Loads.{painted_nothing}
use Rattle.window.proofs.Taking.{painted_once}
use Rattle.loader.specs.declared.Base.{Base as CodeBase}
use Rattle.intake.specs.declared.Intake.{Intake}
use Rattle.intake.specs.declared.Turn.{Turn}
use Rattle.intake.specs.declared.Turn.TheVariants as turn
use Rattle.intake.specs.declared.Walk.{Walk}
use Rattle.intake.specs.Aliases.{Ending}
use Rattle.intake.specs.Machine.{takes, ended, ended_by, stated_by}
use Rattle.intake.specs.Ways.{StandingBy, Way, way_of}
use Rattle.intake.specs.Helpers.{KeptSo, told_turn, TurnedBy, Turned, walk_of}
use Rattle.intake.specs.Intake.{begun_in, spoilt}
use Rattle.intake.specs.Ending.{answers, ended_on, Ends, EndsSo, EndedSo}
use Rattle.intake.specs.Claims.{BeginUnique, BeginTailUnique, FinishUnique}
use Rattle.intake.proofs.Ways.{Lawful}
use Rattle.intake.proofs.Hearing.{carry_stands}
use Rattle.std.specs.Prelude.{None, Some}
use Rattle.steps.specs.Aliases.{refuse}

-- ---- what the reader finds

module _ (s : Intake) (carry : List ℕ) where
  -- the last line, if it has a byte
  abbrev pub last : Kept
  last = with_CR (begun_in s carry)

  -- what is known by the reply: the carry holds the last line, or there is none
  abbrev pub LastBy : (after : Chunks) (carry' : List ℕ) → LineReply → Type 0
  LastBy after carry' (InCarry len skipped) = (is_empty last.bytes ≡ false) × (kept_in carry' len skipped ≡ last) × (after.line ≡ counted (s.line % 2 ^ 64))
  LastBy after carry' (InChunk from len) = is_empty last.bytes ≡ true
  LastBy after carry' UsedUp = is_empty last.bytes ≡ true
  LastBy after carry' Done = is_empty last.bytes ≡ true
  LastBy after carry' CarryTooSmall = is_empty last.bytes ≡ true

  pub last_by : spoilt s carry ≡ false → (w : Walk) → w ≡ walk_of s → (step : LineStep) (carry' : List ℕ) → LastLine w.reader carry step carry' → LastBy step.state carry' step.reply
  unfolding too_small found_line line_place
  last_by big w is step carry' f = go (is_empty last.bytes) refl
    where
      finds : (b : Bool) → is_empty last.bytes ≡ b → Finds (if b then no_last (walk_of s).reader else found_line (walk_of s).reader [] none 0 last 0 true) [] step carry'
      finds b e = subst (λ (o : LineOutcome). Finds o [] step carry') (last_on (walk_of s).reader carry big refl b e) (subst (λ (x : Walk). LastLine x.reader carry step carry') is f)

      go : (b : Bool) → is_empty last.bytes ≡ b → LastBy step.state carry' step.reply
      go true e = rw (finds true e).answer e
      go false e =
          let h = finds false e in
          subst (LastBy step.state carry') (sym h.answer)
          (e, subst (λ (x : LineReply). kept_at x [] carry' ≡ last) h.answer h.line, ap (λ (x : Chunks). x.line) h.state ∙ omega arith)

  pub no_last_by : (after : Chunks) (carry' : List ℕ) (r : LineReply) → ((len skipped : ℕ) → r ≡ InCarry len skipped → ⊥) → LastBy after carry' r → is_empty last.bytes ≡ true
  no_last_by after carry' (InCarry len skipped) h k = absurd (h len skipped refl)
  no_last_by after carry' (InChunk from len) h k = k
  no_last_by after carry' UsedUp h k = k
  no_last_by after carry' Done h k = k
  no_last_by after carry' CarryTooSmall h k = k

-- ---- what the end comes to

module _ {S : Type 0} (src : Source S) (standing : StandingBy S) (plain : (base : CodeBase) (tally : CodeTally) (ps : List Placement) → (standing base tally ps).stated ≡ ps)
    (first : ℕ) (s : Intake) (carry page₀ marks₀ : List ℕ) where
  abbrev inside : ℕ → Bool
  inside = within first (length page₀)

  abbrev st : Standing S
  st = standing s.base s.tally []

  abbrev at_end : Went S
  at_end = ended_on src standing inside s carry

  -- what was stated then is what is painted
  painted_so : (ps : List Placement) → stated_by at_end ≡ ps → (page' marks' : List ℕ) → Painted (window first (length page₀)) ps page₀ marks₀ page' marks'
      → Painted (window first (length page₀)) (stated_by at_end) page₀ marks₀ page' marks'
  painted_so ps e page' marks' p = subst (λ (x : List Placement). Painted (window first (length page₀)) x page₀ marks₀ page' marks') (sym e) p

  pub ends_missing : is_empty (last s carry).bytes ≡ true → Ends src standing first s carry page₀ marks₀ (refuse MissingEndOfFileRecord 0) page₀ marks₀
  unfolding ended
  ends_missing e =
      let is : at_end ≡ on st = if_true _ _ _ e in
      record {
        answer = sym (ap ended_by is);
        paints = painted_so [] (ap stated_by is ∙ plain s.base s.tally []) page₀ marks₀ (painted_nothing (window first (length page₀)) page₀ marks₀);
      }

  answered : (t : Turn) (ps : List Placement) → told_loading (answers t) ≡ ended_by (told_turn standing t ps)
  answered (turn.On base tally) ps = refl
  answered (turn.Stop l) ps = refl

  stated_so : (t : Turn) (ps : List Placement) → stated_by (told_turn standing t ps) ≡ ps
  stated_so (turn.On base tally) ps = plain base tally ps
  stated_so (turn.Stop l) ps = refl

  pub ends_line : KeptSo src → is_empty (last s carry).bytes ≡ false → (k : Kept) → k ≡ last s carry → length k.bytes ≤ 522
      → (n : ℕ) → n ≡ counted (s.line % 2 ^ 64) → (t : Turn) (page' marks' : List ℕ)
      → TurnedBy src standing k.bytes k.skipped n s.base s.tally first page₀ marks₀ t page' marks'
      → Ends src standing first s carry page₀ marks₀ (answers t) page' marks'
  unfolding ended
  ends_line kept e k same few n number t page' marks' h =
      let taken : at_end ≡ takes src inside (counted (s.line % 2 ^ 64)) st (stands_for (last s carry)) = if_false _ _ _ e in
      let is : at_end ≡ told_turn standing t h.stated =
      taken ∙ ap₂ (λ (m : ℕ) (x : Kept). takes src inside m st (stands_for x)) (sym number) (sym same) ∙ sym (carry_stands src inside kept k few n st) ∙ h.comes_to in
      record { answer = answered t h.stated ∙ sym (ap ended_by is); paints = painted_so h.stated (ap stated_by is ∙ stated_so t h.stated) page' marks' h.paints }

-- ---- of a way

module _ (way : Way) (law : Lawful way) (first : ℕ) (s : Intake) (carry page₀ marks₀ : List ℕ) where
  pub ends_missing_so : is_empty (last s carry).bytes ≡ true → EndsSo way first s carry page₀ marks₀ (refuse MissingEndOfFileRecord 0) page₀ marks₀
  ends_missing_so e = ends_missing way.source way.standing law.states first s carry page₀ marks₀ e

  pub ends_line_so : (carry' : List ℕ) (len skipped : ℕ) (after : Chunks) → LastBy s carry after carry' (InCarry len skipped) → length (kept_in carry' len skipped).bytes ≤ 522
      → (w : Walk) → w ≡ walk_of s → (t : Turn) (page' marks' : List ℕ)
      → Turned way (kept_in carry' len skipped).bytes skipped after.line w.base w.tally first page₀ marks₀ t page' marks'
      → EndsSo way first s carry page₀ marks₀ (answers t) page' marks'
  ends_line_so carry' len skipped after (e, same, number) few w is t page' marks' h =
      let (taken, stays) = subst (λ (x : Walk). Turned way (kept_in carry' len skipped).bytes skipped after.line x.base x.tally first page₀ marks₀ t page' marks') is h in
      ends_line way.source way.standing law.states first s carry page₀ marks₀ law.kept e (kept_in carry' len skipped) same few after.line number t page' marks' taken

-- ---- no second answer meets a contract

pub begin_unique : BeginUnique
begin_unique kind stated r r' m m' x y = (x.answer ∙ sym y.answer, x.clears ∙ sym y.clears)

pub begin_tail_unique : BeginTailUnique
begin_tail_unique kind r r' x y = x.answer ∙ sym y.answer

module _ (first : ℕ) (s : Intake) (carry stage stated : List ℕ) (few : Bytes stated) (l l' : Loading) (p p' m m' : List ℕ) where
  ends_once : {S : Type 0} (src : Source S) (standing : StandingBy S) → Ends src standing first s carry stage stated l p m → Ends src standing first s carry stage stated l' p' m'
      → (l ≡ l') × (p ≡ p') × (m ≡ m')
  ends_once src standing x y =
      let (pages, marks) = painted_once (window first (length stage)) (stated_by (ended_on src standing (within first (length stage)) s carry)) stage stated p p' m m' few x.paints y.paints in
      (told_apart l l' (x.answer ∙ sym y.answer), pages, marks)

ended_once : (first : ℕ) (s : Intake) (carry stage stated : List ℕ) → Bytes stated → (r r' : Ending) (p p' m m' : List ℕ)
    → EndedSo first s carry stage stated r p m → EndedSo first s carry stage stated r' p' m' → (r ≡ r') × (p ≡ p') × (m ≡ m')
ended_once first s carry stage stated few (Some l) (Some l') p p' m m' x y =
    let way = way_of s.kind s.tail in
    let (same, pages, marks) = ends_once first s carry stage stated few l l' p p' m m' way.source way.standing x y in
    (ap Some same, pages, marks)
ended_once first s carry stage stated few (Some l) None p p' m m' x y = absurd y
ended_once first s carry stage stated few None r' p p' m m' x y = absurd x

pub finish_unique : FinishUnique
finish_unique s carry first stage stated r r' c c' p p' m m' few x y = go (spoilt s carry) refl (unfit first (length stage) (length stated)) refl
  where
    go : (t : Bool) → spoilt s carry ≡ t → (u : Bool) → unfit first (length stage) (length stated) ≡ u
        → (r ≡ r') × (p ≡ p') × (m ≡ m') × ((spoilt s carry || unfit first (length stage) (length stated)) ≡ true → c ≡ c')
    go true e u f =
        let (a, k, v, w) = x.small e in
        let (a', k', v', w') = y.small e in
        (a ∙ sym a', v ∙ sym v', w ∙ sym w', λ h. k ∙ sym k')
    go false e true f =
        let (a, k, v, w) = x.bad_window e f in
        let (a', k', v', w') = y.bad_window e f in
        (a ∙ sym a', v ∙ sym v', w ∙ sym w', λ h. k ∙ sym k')
    go false e false f =
        let (a, v, w) = ended_once first s carry stage stated few r r' p p' m m' (x.ends e f) (y.ends e f) in
        (a, v, w, λ h. let z : false ≡ true = rw (e, f) at h in let k : ◌≡◌ {A = ℕ} 0 1 = cc in absurd (omega arith))
