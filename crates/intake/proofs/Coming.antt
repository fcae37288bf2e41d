-- Line after line of a chunk: where a walk has come, and what that comes to in the end. For every source.
-- Assumes nothing.
use Rattle.std.proofs.Common.{◌≡◌, ℕ, List, [], ◌++◌, length, drop, sym, refl, ap, ◌∙◌, subst, append_assoc, append-nil}
use Rattle.steps.specs.Steps.{Placement, Verdict}
use Rattle.steps.specs.Source.{Source}
use Rattle.steps.proofs.Places.{length_painted}
use Rattle.steps.specs.Aliases.{Loading}
use Rattle.steps.specs.Told.{told_loading}
use Rattle.window.specs.Window.{within, window}
use Rattle.window.specs.Promises.{Painted}
use Rattle.window.proofs.Loads.{painted_nothing}
use Rattle.window.proofs.Spread.{painted_both}
use Rattle.intake.specs.declared.Walk.{Walk}
use Rattle.intake.specs.declared.Heard.{Heard}
use Rattle.intake.specs.declared.Heard.TheVariants as heard
use Rattle.intake.specs.Machine.{Fed, decided}
use Rattle.intake.specs.Ways.{StandingBy, Way}
use Rattle.intake.specs.Helpers.{UnderWay, to_come, IsUsedUp, WentOn, StoppedAt, Came, CameThrough, HeardSo}
use Rattle.intake.proofs.Ways.{Lawful}

module _ {S : Type 0} (src : Source S) (standing : StandingBy S) (first : ℕ) (w₀ : Walk) (chunk carry₀ page₀ marks₀ : List ℕ) where
  pub came_start : UnderWay w₀.reader carry₀ → Came src standing first w₀ chunk carry₀ page₀ marks₀ w₀ carry₀ page₀ marks₀
  came_start u =
      record {
        stated = [];
        comes_to = λ qs. ap (to_come src standing (within first (length page₀)) w₀ chunk carry₀) (sym (append-nil qs));
        paints = painted_nothing (window first (length page₀)) page₀ marks₀;
        under_way = u;
      }

  module _ (w : Walk) (carry page marks : List ℕ) (came : Came src standing first w₀ chunk carry₀ page₀ marks₀ w carry page marks) where
    -- the page keeps its length
    pub same_length : length page ≡ length page₀
    same_length = ap length came.paints.page ∙ length_painted (window first (length page₀)) came.stated 0 page₀

    -- and what is painted next is painted after what was
    then_painted : (ps : List Placement) (page' marks' : List ℕ) → Painted (window first (length page)) ps page marks page' marks'
        → Painted (window first (length page₀)) (came.stated ++ ps) page₀ marks₀ page' marks'
    then_painted ps page' marks' p =
        painted_both (window first (length page₀)) came.stated ps page₀ marks₀ page marks page' marks' came.paints (subst (λ (n : ℕ). Painted (window first n) ps page marks page' marks') same_length p)

    then_comes : (ps : List Placement) (f : List Placement → Fed S) → ((qs : List Placement) → to_come src standing (within first (length page)) w chunk carry qs ≡ f (qs ++ ps))
        → (qs : List Placement) → to_come src standing (within first (length page₀)) w₀ chunk carry₀ qs ≡ f (qs ++ (came.stated ++ ps))
    then_comes ps f c qs =
        came.comes_to qs ∙ ap (λ (n : ℕ). to_come src standing (within first n) w chunk carry (qs ++ came.stated)) (sym same_length) ∙ c (qs ++ came.stated) ∙ ap f (append_assoc qs came.stated ps)

    pub came_again : (w' : Walk) (carry' page' marks' : List ℕ) → WentOn src standing first w chunk carry page marks w' carry' page' marks'
        → Came src standing first w₀ chunk carry₀ page₀ marks₀ w' carry' page' marks'
    came_again w' carry' page' marks' x =
        record {
          stated = came.stated ++ x.stated;
          comes_to =
              then_comes x.stated (to_come src standing (within first (length page₀)) w' chunk carry')
              (λ qs. x.comes_to qs ∙ ap (λ (n : ℕ). to_come src standing (within first n) w' chunk carry' (qs ++ x.stated)) same_length);
          paints = then_painted x.stated page' marks' x.paints;
          under_way = x.under_way;
        }

    pub came_to_its_end : (w' : Walk) (carry' page' marks' : List ℕ) → IsUsedUp src standing first w chunk carry page marks w' carry' page' marks'
        → CameThrough src standing first w₀ chunk carry₀ page₀ marks₀ w' carry' page' marks'
    came_to_its_end w' carry' page' marks' x =
        record {
          stated = came.stated;
          comes_to =
              λ qs.
              came.comes_to qs ∙ ap (λ (n : ℕ). to_come src standing (within first n) w chunk carry (qs ++ came.stated)) (sym same_length) ∙ x.comes_to (qs ++ came.stated);
          fits = x.fits;
          paints = rw (x.page_is, x.marks_are) came.paints;
        }

    pub came_to_stop : (v : Verdict) (used : ℕ) (page' marks' : List ℕ) → StoppedAt src standing first w chunk carry page marks v used page' marks'
        → StoppedAt src standing first w₀ chunk carry₀ page₀ marks₀ v used page' marks'
    came_to_stop v used page' marks' x =
        record {
          line = x.line;
          stated = came.stated ++ x.stated;
          comes_to = then_comes x.stated (λ ps. decided x.line v ps (drop used chunk)) x.comes_to;
          paints = then_painted x.stated page' marks' x.paints;
          inside = x.inside;
        }

-- ---- of a way

-- the loop's invariant
pub record Walking (way : Way) (first : ℕ) (w₀ : Walk) (chunk carry₀ page₀ marks₀ : List ℕ) (w : Walk) (carry page marks : List ℕ) : Type 0 where
  pub came : Came way.source way.standing first w₀ chunk carry₀ page₀ marks₀ w carry page marks
  pub stays : way.stays w₀.base w₀.tally w.base w.tally
  pub carry_size : length carry ≡ length carry₀
  pub page_size : length page ≡ length page₀
  pub marks_size : length marks ≡ length marks₀

module _ (way : Way) (law : Lawful way) (first : ℕ) (w₀ : Walk) (chunk carry₀ page₀ marks₀ : List ℕ) where
  pub walk_start : UnderWay w₀.reader carry₀ → Walking way first w₀ chunk carry₀ page₀ marks₀ w₀ carry₀ page₀ marks₀
  walk_start u =
      record {
        came = came_start way.source way.standing first w₀ chunk carry₀ page₀ marks₀ u;
        stays = law.still w₀.base w₀.tally;
        carry_size = refl;
        page_size = refl;
        marks_size = refl;
      }

  module _ (w : Walk) (carry page marks : List ℕ) where
    module _ (h : Heard) (carry' page' marks' : List ℕ) (x : HeardSo way first w chunk carry page marks h carry' page' marks') where
      -- what was heard, by which it is
      heard_as : (h' : Heard) → h ≡ h' → HeardSo way first w chunk carry page marks h' carry' page' marks'
      heard_as h' e = subst (λ (z : Heard). HeardSo way first w chunk carry page marks z carry' page' marks') e x

      module _ (i : Walking way first w₀ chunk carry₀ page₀ marks₀ w carry page marks) where
        stays_on : (w' : Walk) → way.stays w.base w.tally w'.base w'.tally → way.stays w₀.base w₀.tally w'.base w'.tally
        stays_on w' y = law.again w₀.base w₀.tally w.base w.tally w'.base w'.tally i.stays y

        pub walk_again : (w' : Walk) → h ≡ heard.On w' → length carry' ≡ length carry → length page' ≡ length page → length marks' ≡ length marks
            → Walking way first w₀ chunk carry₀ page₀ marks₀ w' carry' page' marks'
        walk_again w' e lc lp lm =
            let (y, s) = heard_as (heard.On w') e in
            record {
              came = came_again way.source way.standing first w₀ chunk carry₀ page₀ marks₀ w carry page marks i.came w' carry' page' marks' y;
              stays = stays_on w' s;
              carry_size = lc ∙ i.carry_size;
              page_size = lp ∙ i.page_size;
              marks_size = lm ∙ i.marks_size;
            }

        pub walk_through : (w' : Walk) → h ≡ heard.UsedUp w'
            → CameThrough way.source way.standing first w₀ chunk carry₀ page₀ marks₀ w' carry' page' marks' × way.stays w₀.base w₀.tally w'.base w'.tally
        walk_through w' e =
            let (y, s) = heard_as (heard.UsedUp w') e in
            (came_to_its_end way.source way.standing first w₀ chunk carry₀ page₀ marks₀ w carry page marks i.came w' carry' page' marks' y, stays_on w' s)

        pub walk_stop : (l : Loading) (used : ℕ) → h ≡ heard.Stop l used
            → StoppedAt way.source way.standing first w₀ chunk carry₀ page₀ marks₀ (told_loading l) used page' marks'
        walk_stop l used e =
            came_to_stop way.source way.standing first w₀ chunk carry₀ page₀ marks₀ w carry page marks i.came (told_loading l) used page' marks' (heard_as (heard.Stop l used) e).0
