-- Lines that were heard fall into parts, each dump as a load of its own lines decides it: by the decisions that say what is heard.
-- Assumes nothing.
use Prim.Native.Nat.{ℕ}
use mathlib.Core.Path.{◌≡◌, refl, sym, ap, ◌∙◌}
use mathlib.Core.Bool.{Bool}
use mathlib.Core.Option.{Option, none, some}
use mathlib.Core.List.{List, [], ◌∷◌, ◌++◌, append_assoc, append-nil}
use lib.ListN.{take, drop, take-append-drop}
use lib.Seq.{length-take-le}
use Rattle.digits.specs.Common.{Every}
use Rattle.record.specs.Refusals.{missing_end_of_file_record}
use Rattle.steps.specs.Steps.{Placement, nothing_yet, accepted, refused, Decision, by, decision, verdict, stated}
use Rattle.steps.specs.Source.{Source}
use Rattle.listen.specs.Listen.{Mode, front, within, skipping, Saying, said, reaching, listen, pause, stretch}
use Rattle.listen.specs.Skipping.{dump_steps, Place, beginning, midway, unknown, place_after, place_of, HeardAs, no_line, empty_line, undecided, decided, all_skipped, skipped}
use Rattle.listen.specs.Parts.{Part, dump, passed, begun, lines_of, all_of, AsLoad, said_of, said_in_all, reaches_of, to_page}
use Rattle.listen.specs.Claims.{Parted, SaidAsLoad, StretchAsLoad}
use Rattle.listen.proofs.Fronts.{front_decides}
use Rattle.listen.proofs.Exactly.{heard_exactly}

-- what a pause says at a place
abbrev at_pause : Place → List Saying
at_pause beginning = []
at_pause midway = said (refused missing_end_of_file_record 0) [] ∷ []
at_pause unknown = []

paused_there : {S : Type 0} (m : Mode S) → (pause m).says ≡ at_pause (place_of m)
paused_there front = refl
paused_there (within n st) = refl
paused_there skipping = refl

module _ {S : Type 0} (src : Source S) (inside : ℕ → Bool) where
  -- ---- the parts

  pub record PartsOf (ls : List (List ℕ)) (ss : List Saying) (to : Place) : Type 0 where
    pub parts : List Part
    pub whole : all_of lines_of parts ≡ ls
    pub as_load : Every (AsLoad src inside) parts
    pub says : ss ≡ all_of (said_of src inside) parts
    pub pauses : ss ++ at_pause to ≡ all_of (said_in_all src inside) parts

  -- some lines are passed, and then there are these parts
  pass : (ahead ls all : List (List ℕ)) (ss : List Saying) (to : Place) → all ≡ ahead ++ ls → PartsOf ls ss to → PartsOf all ss to
  unfolding all_of
  pass ahead ls all ss to e p =
      record {
        parts = passed ahead ∷ p.parts;
        whole = ap (λ (x : List (List ℕ)). ahead ++ x) p.whole ∙ sym e;
        as_load = (tt, p.as_load);
        says = p.says;
        pauses = p.pauses;
      }

  no_part : (to : Place) → at_pause to ≡ [] → PartsOf [] [] to
  unfolding all_of
  no_part to e = record { parts = []; whole = refl; as_load = tt; says = refl; pauses = e }

  -- a dump that no line decides
  last_part : (ls : List (List ℕ)) → decision inside nothing_yet (dump_steps src ls) ≡ none → PartsOf ls [] midway
  unfolding all_of verdict
  last_part ls e = record { parts = begun ls ∷ []; whole = append-nil ls; as_load = (e, tt); says = refl; pauses = ap (λ (o : Option Decision). said (verdict o) [] ∷ []) (sym e) }

  parts_of : (from : Place) (ls : List (List ℕ)) (ss : List Saying) (to : Place) → HeardAs src inside from ls ss to → PartsOf ls ss to
  unfolding all_of
  parts_of from ls ss to no_line = no_part beginning refl
  parts_of from ls ss to (empty_line ls' ss' to' h) = pass ([] ∷ []) ls' ([] ∷ ls') ss' to' refl (parts_of beginning ls' ss' to' h)
  parts_of from ls ss to (undecided line ls' ne e) = last_part (line ∷ ls') e
  parts_of from ls ss to (decided line ls' n v ss' to' ne e h) =
      let d = front_decides src inside line ls' n v ne e in
      let p = parts_of (place_after v) (drop n (line ∷ ls')) ss' to' h in
      let s : Saying = said v (reaching v (stated (dump_steps src (take n (line ∷ ls'))))) in
      record {
        parts = dump (take n (line ∷ ls')) v ∷ p.parts;
        whole = ap (λ (x : List (List ℕ)). take n (line ∷ ls') ++ x) p.whole ∙ take-append-drop n (line ∷ ls');
        as_load = (d.alone ∙ ap (λ (j : ℕ). some (by j v)) (sym (length-take-le n (line ∷ ls') d.there)), p.as_load);
        says = ap (λ (ps : List Placement). said v ps ∷ ss') (sym d.states) ∙ ap (λ (x : List Saying). s ∷ x) p.says;
        pauses = ap (λ (ps : List Placement). said v ps ∷ (ss' ++ at_pause to')) (sym d.states) ∙ ap (λ (x : List Saying). s ∷ x) p.pauses;
      }
  parts_of from ls ss to (all_skipped ls' h) = pass ls' [] ls' [] unknown (sym (append-nil ls')) (no_part unknown refl)
  parts_of from ls ss to (skipped ahead line later ls' ss' to' h e w c) =
      pass (ahead ++ (line ∷ [])) later ls' ss' to' (w ∙ sym (append_assoc ahead (line ∷ []) later)) (parts_of beginning later ss' to' c)

  -- ---- what reaches the page is what accepted parts state

  reach_page : (f : Part → List Saying) → ((p : Part) (ss : List Saying) → to_page (f p ++ ss) ≡ reaches_of src inside p ++ to_page ss)
      → (parts : List Part) → to_page (all_of f parts) ≡ all_of (reaches_of src inside) parts
  unfolding to_page all_of
  reach_page f h [] = refl
  reach_page f h (p ∷ parts) = h p (all_of f parts) ∙ ap (λ (ps : List Placement). reaches_of src inside p ++ ps) (reach_page f h parts)

  one_reaches : (p : Part) (ss : List Saying) → to_page (said_of src inside p ++ ss) ≡ reaches_of src inside p ++ to_page ss
  unfolding to_page
  one_reaches (dump ls (accepted t)) ss = refl
  one_reaches (dump ls (refused r n)) ss = refl
  one_reaches (passed ls) ss = refl
  one_reaches (begun ls) ss = refl

  -- a pause adds nothing
  as_many : (p : Part) (ss : List Saying) → to_page (said_in_all src inside p ++ ss) ≡ reaches_of src inside p ++ to_page ss
  unfolding to_page
  as_many (dump ls v) ss = one_reaches (dump ls v) ss
  as_many (passed ls) ss = refl
  as_many (begun ls) ss = refl

  -- ---- lines, and a stretch

  module _ (m : Mode S) (ls : List (List ℕ)) (p : PartsOf ls (listen src inside m ls).says (place_of (listen src inside m ls).mode)) where
    lines_parted : Parted src inside (said_of src inside) (listen src inside m ls) ls
    lines_parted = (p.parts, p.whole, p.as_load, p.says, ap to_page p.says ∙ reach_page (said_of src inside) one_reaches p.parts)

    stretch_parted : Parted src inside (said_in_all src inside) (stretch src inside m ls) ls
    stretch_parted =
        let h = listen src inside m ls in
        let e = ap (λ (x : List Saying). h.says ++ x) (paused_there h.mode) ∙ p.pauses in
        (p.parts, p.whole, p.as_load, e, ap to_page e ∙ reach_page (said_in_all src inside) as_many p.parts)

  from_front : (ls : List (List ℕ)) → PartsOf ls (listen src inside front ls).says (place_of (listen src inside front ls).mode)
  from_front ls = let h = listen src inside front ls in parts_of beginning ls h.says (place_of h.mode) ((heard_exactly S src inside ls h.says (place_of h.mode)).0.0 (refl, refl))

  from_unknown : (ls : List (List ℕ)) → PartsOf ls (listen src inside skipping ls).says (place_of (listen src inside skipping ls).mode)
  from_unknown ls = let h = listen src inside skipping ls in parts_of unknown ls h.says (place_of h.mode) ((heard_exactly S src inside ls h.says (place_of h.mode)).1.0 (refl, refl))

pub said_as_load : SaidAsLoad
said_as_load S src inside ls = (lines_parted src inside front ls (from_front src inside ls), lines_parted src inside skipping ls (from_unknown src inside ls))

pub stretch_as_load : StretchAsLoad
stretch_as_load S src inside ls = (stretch_parted src inside front ls (from_front src inside ls), stretch_parted src inside skipping ls (from_unknown src inside ls))
