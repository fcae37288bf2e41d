-- A row rests on the lines through the one that stops it, and what is told and shown on no pool's bytes.
-- Assumes nothing.
use Rattle.std.proofs.Common.{◌≡◌, ℕ, suc, ◌+◌, ◌%◌, Bool, true, false, ◌||◌, List, [], ◌∷◌, ◌++◌, length, sym, refl, ap, ◌∙◌, ap₂, add-zero, add-suc, suc-add, arith}
use mathlib.Core.Option.{some}
use Rattle.std.specs.Prelude.{if◌then◌else◌}
use Rattle.record.specs.Line.{judge}
use Rattle.reader.specs.declared.ReaderOptions.{ReaderOptions}
use Rattle.reader.specs.Told.{Told}
use Rattle.reader.specs.Answer.{answered}
use Rattle.reader.specs.Lines.{lines, through}
use Rattle.reader.specs.Row.{sayings, stops, stopped}
use Rattle.reader.specs.Text.{is_full, ends_row}
use Rattle.reader.specs.Calls.{Call}
use Rattle.reader.proofs.Cutting.{lines_closed, Head, through_head}
use Rattle.reader.proofs.Room.{ends_stops}
use Rattle.chunks.specs.Next.{is_record}
use Rattle.chunks.specs.Rows.{Seen, Nth, nth, numbered, seen_for, showing}
use Rattle.chunks.specs.Claims.{Alike, none_left, one_more, without_pools}
use Rattle.chunks.proofs.Pieces.{M}
use Rattle.chunks.proofs.Rows.{answer_to, show_full, show_line}
use Rattle.chunks.proofs.Kept.{said_of}

module _ (options : ReaderOptions) where
  -- ---- pools of the same sizes

  -- what is told, its line and what is shown
  abbrev bare : Told → (line : ℕ) (shown : List ℕ) → Seen
  bare t line shown = record { given = record { told = t; pool = []; line = line }; shown = shown }

  pub alike_rows : {calls₁ calls₂ : List Call} → Alike calls₁ calls₂ → (last : ℕ) (ls : List Nth)
      → without_pools (showing options last ls calls₁) ≡ without_pools (showing options last ls calls₂)
  unfolding showing
  alike_rows none_left last ls = refl
  alike_rows (one_more e f a) last [] = ap (λ (r : List Seen). bare Told.done last [] ∷ r) (alike_rows a last [])
  alike_rows (one_more {c₁} {c₂} {cs₁} {cs₂} e f a) last (nth n l ∷ ls) =
      rw (sym same) (go (is_full (answer_to options l c₁)) (alike_rows a))
    where
      same : answer_to options l c₁ ≡ answer_to options l c₂
      same = ap₂ (answered (judge l)) e f

      row : (f : Bool) (c : Call) (cs : List Call) → List Seen
      row f c cs =
          if f
          then record { given = record { told = answer_to options l c₁; pool = c.pool; line = last }; shown = [] } ∷ showing options last (nth n l ∷ ls) cs
          else record { given = record { told = answer_to options l c₁; pool = Rattle.reader.specs.Answer.poured (judge l) c.pool c.at; line = n }; shown = if is_record (answer_to options l c₁) then l else [] } ∷ showing options n (if ends_row options (answer_to options l c₁) then [] else ls) cs

      go : (f : Bool) → ((last : ℕ) (ls : List Nth) → without_pools (showing options last ls cs₁) ≡ without_pools (showing options last ls cs₂))
          → without_pools (row f c₁ cs₁) ≡ without_pools (row f c₂ cs₂)
      go true ih = ap (λ (r : List Seen). bare (answer_to options l c₁) last [] ∷ r) (ih last (nth n l ∷ ls))
      go false ih =
          ap (λ (r : List Seen). bare (answer_to options l c₁) n (if is_record (answer_to options l c₁) then l else []) ∷ r) (ih n (if ends_row options (answer_to options l c₁) then [] else ls))

  -- ---- behind the stop

  -- lines by which the reader has stopped
  abbrev Stopped : List Nth → Type 0
  Stopped ls = stopped options (said_of ls) ≡ true

  pub same_rows : (calls : List Call) (last : ℕ) (xs ys₁ ys₂ : List Nth) → Stopped xs → showing options last (xs ++ ys₁) calls ≡ showing options last (xs ++ ys₂) calls
  unfolding showing said_of stopped
  same_rows [] last xs ys₁ ys₂ h = refl
  same_rows (call ∷ calls) last [] ys₁ ys₂ h = let z : ◌≡◌ {A = ℕ} 0 1 = cc in absurd (omega arith)
  same_rows (call ∷ calls) last (nth n l ∷ xs) ys₁ ys₂ h = go (is_full (answer_to options l call)) refl (λ last xs h. same_rows calls last xs ys₁ ys₂ h)
    where
      go : (f : Bool) → is_full (answer_to options l call) ≡ f → ((last : ℕ) (xs : List Nth) → Stopped xs → showing options last (xs ++ ys₁) calls ≡ showing options last (xs ++ ys₂) calls)
          → showing options last (nth n l ∷ (xs ++ ys₁)) (call ∷ calls) ≡ showing options last (nth n l ∷ (xs ++ ys₂)) (call ∷ calls)
      go true f ih =
          show_full options last n l (xs ++ ys₁) call calls f
          ∙ ap (λ (r : List Seen). record { given = record { told = answer_to options l call; pool = call.pool; line = last }; shown = [] } ∷ r) (ih last (nth n l ∷ xs) h)
          ∙ sym (show_full options last n l (xs ++ ys₂) call calls f)
      go false f ih =
          show_line options last n l (xs ++ ys₁) call calls f
          ∙ ap (λ (r : List Seen). seen_for (nth n l) call ∷ r) (stop_or_not (stops options (judge l)) (ends_stops options (judge l) (length call.pool) call.at f) h)
          ∙ sym (show_line options last n l (xs ++ ys₂) call calls f)
        where
          stop_or_not : (b : Bool) → ends_row options (answer_to options l call) ≡ b → b || stopped options (said_of xs) ≡ true
              → showing options n (if ends_row options (answer_to options l call) then [] else (xs ++ ys₁)) calls ≡ showing options n (if ends_row options (answer_to options l call) then [] else (xs ++ ys₂)) calls
          stop_or_not true e h = rw e
          stop_or_not false e h = rw e (ih n xs h)

  -- numbers do not stop a reader
  stopped_numbered : (n : ℕ) (ls : List (List ℕ)) → stopped options (said_of (numbered n ls)) ≡ stopped options (sayings n ls)
  unfolding numbered sayings said_of stopped
  stopped_numbered n [] = refl
  stopped_numbered n ([] ∷ ls) = stopped_numbered (suc n) ls
  stopped_numbered n ((c ∷ l) ∷ ls) = ap (λ (b : Bool). stops options (judge (c ∷ l)) || b) (stopped_numbered (suc n) ls)

  numbered_append : (n : ℕ) (xs ys : List (List ℕ)) → numbered n (xs ++ ys) ≡ numbered n xs ++ numbered (n + length xs) ys
  unfolding numbered
  numbered_append n [] ys = ap (λ (k : ℕ). numbered k ys) (sym (add-zero n))
  numbered_append n ([] ∷ xs) ys = numbered_append (suc n) xs ys ∙ ap (λ (k : ℕ). numbered (suc n) xs ++ numbered k ys) (suc-add n (length xs) ∙ sym (add-suc n (length xs)))
  numbered_append n ((c ∷ l) ∷ xs) ys =
      ap (λ (r : List Nth). nth (n % M) (c ∷ l) ∷ r)
      (numbered_append (suc n) xs ys ∙ ap (λ (k : ℕ). numbered (suc n) xs ++ numbered k ys) (suc-add n (length xs) ∙ sym (add-suc n (length xs))))

  parted : (k : ℕ) (text head : List ℕ) → (h : Head k text head) → numbered 1 (lines text) ≡ numbered 1 (lines head) ++ numbered (1 + length (lines head)) (lines h.tail)
  parted k text head h =
      ap (λ (t : List ℕ). numbered 1 (lines t)) h.text_is
      ∙ ap (numbered 1) (lines_closed h.whole h.tail)
      ∙ numbered_append 1 (lines head) (lines h.tail)

  pub behind_stop : (k : ℕ) (text₁ text₂ head : List ℕ) (calls : List Call) → through k text₁ ≡ some head → through k text₂ ≡ some head → stopped options (sayings 1 (lines head)) ≡ true
      → showing options 0 (numbered 1 (lines text₁)) calls ≡ showing options 0 (numbered 1 (lines text₂)) calls
  behind_stop k text₁ text₂ head calls t₁ t₂ stop =
      let h₁ = through_head k text₁ head t₁ in
      let h₂ = through_head k text₂ head t₂ in
      ap (λ (ls : List Nth). showing options 0 ls calls) (parted k text₁ head h₁)
      ∙ same_rows calls 0 (numbered 1 (lines head)) (numbered (1 + length (lines head)) (lines h₁.tail)) (numbered (1 + length (lines head)) (lines h₂.tail)) (stopped_numbered 1 (lines head) ∙ stop)
      ∙ ap (λ (ls : List Nth). showing options 0 ls calls) (sym (parted k text₂ head h₂))
