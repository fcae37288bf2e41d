-- The machine over the rows of a text's lines: what bytes come to is what the steps of their lines come to, whatever follows.
-- Assumes nothing.
use Rattle.std.proofs.Common.{◌≡◌, ℕ, suc, ◌%◌, ◌^◌, Bool, true, false, eqb, List, [], ◌∷◌, ◌++◌, map, sym, refl, ap, ◌∙◌, arith}
use mathlib.Core.Option.{Option, some}
use Rattle.std.specs.Prelude.{if◌then◌else◌}
use Rattle.reader.specs.Lines.{LF}
use Rattle.chunks.specs.Begun.{Begun, nothing, is_empty, stands_for, add, counted}
use Rattle.chunks.specs.Rows.{Nth, nth}
use Rattle.chunks.proofs.Pieces.{before, pieces, pieces_mod}
use Rattle.steps.specs.Steps.{Placement, Action, Step, step, Tally, accepted, Decision, by, decision, stated}
use Rattle.steps.specs.Source.{Source}
use Rattle.steps.specs.Taken.{Standing, Went, on, stopped, acted, at_line}
use Rattle.steps.proofs.Taken.{Acts, acts_are}
use Rattle.intake.specs.Machine.{Fed, wants_more, decided, after_line, fed}

-- ---- rows of lines

-- the steps of numbered lines, from a state on
unfoldable pub row_steps : {S : Type 0} → Source S → S → List Nth → List Step
row_steps src s [] = []
row_steps src s (nth n line ∷ row) = map (step n) (src.act s line) ++ row_steps src (src.next s line) row

module _ {S : Type 0} (src : Source S) (inside : ℕ → Bool) where
  abbrev pub left_to : Standing S → List Nth → Option Decision
  left_to st row = decision inside st.tally (row_steps src st.state row)

  abbrev pub all_stated : Standing S → List Nth → List Placement
  all_stated st row = st.stated ++ stated (row_steps src st.state row)

  -- what bytes come to, with more to follow: what is decided and stated in all
  abbrev pub Comes : (D : (more : List ℕ) → Option Decision) (P : (more : List ℕ) → List Placement) → Fed S → Type 0
  Comes D P (wants_more m st b) = (more : List ℕ) → (D more ≡ left_to st (pieces m b more)) × (P more ≡ all_stated st (pieces m b more))
  Comes D P (decided n v ps left) = (more : List ℕ) → (D more ≡ some (by n v)) × ((k : Tally) → v ≡ accepted k → P more ≡ ps)

  instead : (D D' : (more : List ℕ) → Option Decision) (P P' : (more : List ℕ) → List Placement) (f : Fed S)
      → ((more : List ℕ) → D more ≡ D' more) → ((more : List ℕ) → P more ≡ P' more) → Comes D' P' f → Comes D P f
  instead D D' P P' (wants_more m st b) d p c = λ more. (d more ∙ (c more).0, p more ∙ (c more).1)
  instead D D' P P' (decided n v ps left) d p c = λ more. (d more ∙ (c more).0, λ k q. p more ∙ (c more).1 k q)

  -- pieces after one more line, by either number
  same_pieces : (m : ℕ) (text : List ℕ) → pieces (suc m) nothing text ≡ pieces (counted m) nothing text
  same_pieces m text = pieces_mod text (suc m) (counted m) nothing (omega arith)

  same_number : (m : ℕ) → suc m % 2 ^ 64 ≡ counted m
  same_number m = omega arith

  abbrev Whole : (m : ℕ) → Standing S → Begun → (bytes : List ℕ) → Fed S → Type 0
  Whole m st b bytes f = Comes (λ more. left_to st (pieces m b (bytes ++ more))) (λ more. all_stated st (pieces m b (bytes ++ more))) f

  -- a line that has ended
  after : (m : ℕ) (st : Standing S) (line bytes : List ℕ) (later : Standing S → Fed S)
      → ((st' : Standing S) → Whole (counted m) st' nothing bytes (later st'))
      → Comes (λ more. left_to st (nth (counted m) line ∷ pieces (counted m) nothing (bytes ++ more)))
      (λ more. all_stated st (nth (counted m) line ∷ pieces (counted m) nothing (bytes ++ more)))
      (after_line (counted m) bytes (at_line src inside (counted m) st line) later)
  unfolding at_line row_steps
  after m st line bytes later ih = go (acted inside n s st.tally st.stated acts) (λ more. acts_are inside n s acts st.tally st.stated (rest more))
    where
      n : ℕ
      n = counted m

      s : S
      s = src.next st.state line

      acts : List Action
      acts = src.act st.state line

      rest : (more : List ℕ) → List Step
      rest more = row_steps src s (pieces n nothing (bytes ++ more))

      go : (w : Went S) → ((more : List ℕ) → Acts inside n s st.tally st.stated acts (rest more) w)
          → Comes (λ more. decision inside st.tally (map (step n) acts ++ rest more)) (λ more. st.stated ++ stated (map (step n) acts ++ rest more)) (after_line n bytes w later)
      go (on st') are =
          instead _ (λ more. left_to st' (pieces n nothing (bytes ++ more))) _ (λ more. all_stated st' (pieces n nothing (bytes ++ more))) (later st')
          (λ more. (are more).1 ∙ ap (λ (x : S). decision inside st'.tally (row_steps src x (pieces n nothing (bytes ++ more)))) (sym (are more).0))
          (λ more. (are more).2 ∙ ap (λ (x : S). st'.stated ++ stated (row_steps src x (pieces n nothing (bytes ++ more)))) (sym (are more).0)) (ih st')
      go (stopped v ps) are = λ more. ((are more).0, (are more).1)

  pub whole : (bytes : List ℕ) (m : ℕ) (st : Standing S) (b : Begun) → Whole m st b bytes (fed (at_line src inside) m st b bytes)
  unfolding fed pieces before
  whole [] m st b = λ more. (refl, refl)
  whole (c ∷ bytes) m st b = go (eqb c LF) (is_empty b.kept.bytes) refl refl (whole bytes)
    where
      go : (lf e : Bool) → eqb c LF ≡ lf → is_empty b.kept.bytes ≡ e → ((k : ℕ) (s : Standing S) (d : Begun) → Whole k s d bytes (fed (at_line src inside) k s d bytes))
          → Whole m st b (c ∷ bytes)
          (if lf then (if e then fed (at_line src inside) (counted m) st nothing bytes
          else after_line (counted m) bytes (at_line src inside (counted m) st (stands_for b.kept)) (λ st'. fed (at_line src inside) (counted m) st' nothing bytes))
          else fed (at_line src inside) m st (add b c) bytes)
      go true true p q ih =
          instead _ (λ more. left_to st (pieces (counted m) nothing (bytes ++ more))) _ (λ more. all_stated st (pieces (counted m) nothing (bytes ++ more))) (fed (at_line src inside) (counted m) st nothing bytes)
          (λ more. rw (p, q, same_pieces m (bytes ++ more))) (λ more. rw (p, q, same_pieces m (bytes ++ more))) (ih (counted m) st nothing)
      go true false p q ih =
          instead _ _ _ _ (after_line (counted m) bytes (at_line src inside (counted m) st (stands_for b.kept)) (λ st'. fed (at_line src inside) (counted m) st' nothing bytes))
          (λ more. rw (p, q, same_pieces m (bytes ++ more), same_number m)) (λ more. rw (p, q, same_pieces m (bytes ++ more), same_number m))
          (after m st (stands_for b.kept) bytes (λ st'. fed (at_line src inside) (counted m) st' nothing bytes) (λ st'. ih (counted m) st' nothing))
      go false e p q ih =
          instead _ (λ more. left_to st (pieces m (add b c) (bytes ++ more))) _ (λ more. all_stated st (pieces m (add b c) (bytes ++ more))) (fed (at_line src inside) m st (add b c) bytes)
          (λ more. rw p) (λ more. rw p) (ih m st (add b c))
