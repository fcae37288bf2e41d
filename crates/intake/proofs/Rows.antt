-- The claims of `specs/Rows.antt` on rows of texts and of tails.
-- Assumes nothing.
use Rattle.std.proofs.Common.{◌≡◌, ℕ, ◌≤◌, Bool, false, List, length, sym, ◌∙◌, subst, arith}
use Rattle.chunks.proofs.Calls.{fits}
use Rattle.intake.specs.declared.Kind.{Kind}
use Rattle.intake.specs.declared.Intake.{Intake}
use Rattle.intake.specs.declared.Reply.TheVariants.{WantsMore}
use Rattle.intake.specs.Ways.{Way, way_of}
use Rattle.intake.specs.Helpers.{walk_of}
use Rattle.intake.specs.Intake.{spoilt, FeedsSo}
use Rattle.intake.specs.Rows.{Row, no_chunk, and_then, opened, text_of, RowDecides, RowEnds, RowWaits, RowCarries}
use Rattle.intake.proofs.Feeding.{same_tests, sound}
use Rattle.intake.proofs.Following.{Here, open_call, so_far, row_decided, row_ended, row_waited}

-- where a row has come that begins with such a state
pub come_to : (kind : Kind) (tail cr : Bool) (first : ℕ) (carry₀ stage₀ stated₀ : List ℕ) (s₀ : Intake) → s₀ ≡ opened kind tail cr
    → (chunks : List (List ℕ)) (s : Intake) (carry stage stated : List ℕ) → Row first s₀ carry₀ stage₀ stated₀ chunks s carry stage stated
    → Here kind tail cr first carry₀ stage₀ stated₀ (text_of cr chunks) s carry stage stated
come_to kind tail cr first carry₀ stage₀ stated₀ s₀ is chunks s carry stage stated row =
    so_far kind tail cr first carry₀ stage₀ stated₀ (subst (λ (x : Intake). Row first x carry₀ stage₀ stated₀ chunks s carry stage stated) is row)

pub row_decides : RowDecides
row_decides kind tail cr first carry₀ stage₀ stated₀ s₀ is chunks s carry stage stated row chunk l used carry' stage' stated' f more page marks short even rows =
    row_decided kind tail cr first carry₀ stage₀ stated₀ (text_of cr chunks) s carry stage stated (come_to kind tail cr first carry₀ stage₀ stated₀ s₀ is chunks s carry stage stated row)
    page marks even rows chunk more l used carry' stage' stated' short f

pub row_ends : RowEnds
row_ends kind tail cr first carry₀ stage₀ stated₀ s₀ is chunks s carry stage stated row l carry' stage' stated' f page marks short even rows =
    row_ended kind tail cr first carry₀ stage₀ stated₀ (text_of cr chunks) s carry stage stated (come_to kind tail cr first carry₀ stage₀ stated₀ s₀ is chunks s carry stage stated row)
    page marks even rows l carry' stage' stated' short f

pub row_waits : RowWaits
row_waits kind tail cr first carry₀ stage₀ stated₀ s₀ is chunks s carry stage stated row more short m v d =
    row_waited kind tail cr first carry₀ stage₀ stated₀ (text_of cr chunks) s carry stage stated (come_to kind tail cr first carry₀ stage₀ stated₀ s₀ is chunks s carry stage stated row)
    more short m v d

-- a call that wants more leaves a carry and a state that fit each other
carry_fits : (way : Way) (first : ℕ) (s : Intake) (chunk carry stage stated : List ℕ) (s' : Intake) (carry' stage' stated' : List ℕ)
    → FeedsSo way first s chunk carry stage stated (WantsMore s') carry' stage' stated' → (s'.used ≤ 522) × (length carry' ≡ length carry)
carry_fits way first s chunk carry stage stated s' carry' stage' stated' (w, kept) = (w.used_fits, w.carry_size)

carries : {first : ℕ} {s₀ : Intake} {carry₀ stage₀ stated₀ : List ℕ} {chunks : List (List ℕ)} {s : Intake} {carry stage stated : List ℕ}
    → Row first s₀ carry₀ stage₀ stated₀ chunks s carry stage stated → spoilt s₀ carry₀ ≡ false → spoilt s carry ≡ false
carries no_chunk e = e
carries {first = first} (and_then {chunks} {s} {carry} {stage} {stated} chunk s' carry' stage' stated' row f) e =
    let (big, fit) = open_call s chunk carry first stage stated s' carry' stage' stated' f in
    let (few, size) = carry_fits (way_of s.kind s.tail) first s chunk carry stage stated s' carry' stage' stated' (f.feeds big fit) in
    let (enough, used) = fits (walk_of s).reader carry (sym (same_tests s carry) ∙ big) in
    sound s' carry' (omega (arith, enough, size)) few

pub row_carries : RowCarries
row_carries first s₀ carry₀ stage₀ stated₀ chunks s carry stage stated row e = carries row e
