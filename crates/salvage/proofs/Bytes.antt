-- One byte of an undamaged text changed, lost or added: the captured lines still stand for it.
-- Assumes nothing.
use Prim.Native.Nat.{ℕ, suc, ◌≤◌}
use mathlib.Core.Path.{◌≡◌, refl, sym, ap, ◌∙◌, subst}
use mathlib.Core.Logic.{◌≢◌, ◌⊎◌, inl, inr}
use native.Mathlib.Omega.{arith}
use mathlib.Core.Bool.{Bool, true, false}
use mathlib.Core.Option.{some}
use mathlib.Core.List.{List, [], ◌∷◌, ◌++◌, append_assoc, append-nil, nil≢cons, tail-eq_of_cons-eq}
use lib.ListN.{length, drop}
use Rattle.digits.specs.Common.{Every}
use Rattle.digits.specs.Hex as hex
use Rattle.record.specs.Refusals.{Refusal}
use Rattle.record.specs.Line.{Said, says, wrong, judge}
use Rattle.record.specs.Meaning.{meaning, end_of_file}
use Rattle.record.specs.Noise.{SaysARecord}
use Rattle.record.proofs.Claims.{admits}
use Rattle.record.proofs.Noise.{no_record_goes_on}
use Rattle.reader.specs.Lines.{LF, first_line, lines}
use Rattle.reader.specs.Row.{sayings, row, is_end}
use Rattle.reader.proofs.Cutting.{lines_cons, lines_closed}
use Rattle.loader.specs.Noise.{NoLF}
use Rattle.loader.proofs.Agreeing.{Fine, word}
use Rattle.loader.proofs.Edits.{few, without_CR, without_parts, without_few, edited, no_LF_append, feed_or_not, Tail, ends, feeds, first_cut, last_cut, cut_rest, fine_line}
use Rattle.salvage.specs.Fates.{Says, Refused, GoesOn}
use Rattle.salvage.specs.Standing.{Stands, broken_off, same, respelt, damaged, ended, gained, lost}
use Rattle.salvage.specs.Bytes.{NothingBehind, OneByteOff}
use Rattle.salvage.proofs.Fates.{empty_says, said_so, is_the_end, is_no_end, not_refused}
use Rattle.salvage.proofs.Stating.{Unrefused, unrefused_behind, unrefused_not}
use Rattle.salvage.proofs.Broken.{ahead_same}
use Rattle.salvage.proofs.Claims.{salvage_in_order}

-- ---- lines

-- a line is empty, a record or refused
data Kind (l : List ℕ) : Type 0 where
  blank : l ≡ [] → Kind l
  good : l ≢ [] → SaysARecord l → Kind l
  bad : (r : Refusal) → Refused l r → Kind l

kind : (l : List ℕ) → Kind l
kind [] = blank refl
kind (c ∷ l) = go (judge (c ∷ l)) refl
  where
    go : (s : Said) → judge (c ∷ l) ≡ s → Kind (c ∷ l)
    go (says k a p) e = good (λ z. nil≢cons (sym z)) (k, a, p, e)
    go (wrong r) e = bad r (record { has_byte = λ z. nil≢cons (sym z); judged = e })

good_fine : (l : List ℕ) → SaysARecord l → Fine l
good_fine [] s = tt
good_fine (c ∷ l) s = s

fine_good : (l : List ℕ) → l ≢ [] → Fine l → SaysARecord l
fine_good [] n f = absurd (n refl)
fine_good (c ∷ l) n f = f

end_or_on : (l : List ℕ) → Says l end_of_file ⊎ GoesOn l
end_or_on l = go (kind l)
  where
    go : Kind l → Says l end_of_file ⊎ GoesOn l
    go (blank e) = inr (λ h. empty_says end_of_file (subst (λ (x : List ℕ). Says x end_of_file) e h))
    go (good n (k, a, p, e)) = test (is_end (meaning k a p)) refl
      where
        test : (b : Bool) → is_end (meaning k a p) ≡ b → Says l end_of_file ⊎ GoesOn l
        test true z = inl (said_so l k a p e ∙ ap some (is_the_end (meaning k a p) z))
        test false z = inr (λ h. let w = said_so l k a p e in is_no_end (meaning k a p) z (cc))
    go (bad r h) = inr (λ q. not_refused l end_of_file q r h)

-- ---- sound lines

-- no refused line is met, and only empty lines stand after an end record
pub record Sound (k : ℕ) (us : List (List ℕ)) : Type 0 where
  pub unrefused : Unrefused k us
  pub no_more : NothingBehind us

no_more_behind : (hs us : List (List ℕ)) → NothingBehind (hs ++ us) → NothingBehind us
no_more_behind hs us f ahead e behind w h = f (hs ++ ahead) e behind (ap (λ (x : List (List ℕ)). hs ++ x) w ∙ sym (append_assoc hs ahead (e ∷ behind))) h

sound_fine : (k : ℕ) (u : List ℕ) (us : List (List ℕ)) → Sound k (u ∷ us) → Fine u
sound_fine k u us s = go (kind u)
  where
    go : Kind u → Fine u
    go (blank e) = rw e tt
    go (good n h) = good_fine u h
    go (bad r h) = absurd (unrefused_not k u us r h s.unrefused)

sound_tail : (k : ℕ) (u : List ℕ) (us : List (List ℕ)) → GoesOn u → Sound k (u ∷ us) → Sound (suc k) us
unfolding sayings
sound_tail k u us g s = record { unrefused = go u (kind u) g s.unrefused; no_more = no_more_behind (u ∷ []) us s.no_more }
  where
    go : (u : List ℕ) → Kind u → GoesOn u → Unrefused k (u ∷ us) → Unrefused (suc k) us
    go [] i g f = f
    go (c ∷ u) (blank e) g f = absurd (nil≢cons (sym e))
    go (c ∷ u) (good n (kd, a, p, e)) g f =
        let h = said_so (c ∷ u) kd a p e in unrefused_behind k (c ∷ u) us (meaning kd a p) h (λ z. g (h ∙ ap some z)) f
    go (c ∷ u) (bad r h) g f = absurd (unrefused_not k (c ∷ u) us r h f)

-- ---- standing

stands_refl : (ls : List (List ℕ)) → Stands ls ls
stands_refl [] = broken_off
stands_refl (l ∷ ls) = same (stands_refl ls)

abbrev Blank : List ℕ → Type 0
Blank l = l ≡ []

blanks_stand : (ls us : List (List ℕ)) → Every Blank ls → Stands ls us
blanks_stand [] us h = broken_off
blanks_stand (l ∷ ls) us (e, h) = subst (λ (x : List ℕ). Stands (x ∷ ls) us) (sym e) (gained (blanks_stand ls us h))

behind_end : (k : ℕ) (u : List ℕ) (us : List (List ℕ)) → Sound k (u ∷ us) → Says u end_of_file → Every Blank us
behind_end k u us s h = s.no_more [] u us refl h

-- a refused line for this one
bad_line : (t : List ℕ) (r : Refusal) (u : List ℕ) (ls us : List (List ℕ)) → Refused t r → Stands ls us → (Says u end_of_file → Stands ls (u ∷ us)) → Stands (t ∷ ls) (u ∷ us)
bad_line t r u ls us h s f = go (end_or_on u)
  where
    go : Says u end_of_file ⊎ GoesOn u → Stands (t ∷ ls) (u ∷ us)
    go (inl e) = damaged r [] h tt (f e)
    go (inr g) = damaged r (u ∷ []) h (g, tt) s

-- an empty line says nothing, any other something
words : (t u : List ℕ) → t ≡ [] → u ≢ [] → ¬ (word t ≡ word u)
words [] [] e n w = n refl
words [] (c ∷ u) e n w = let z : ◌≡◌ {A = ℕ} 0 1 = cc in omega arith
words (c ∷ t) u e n w = nil≢cons (sym e)

-- two lines that say the same if both are fine
off_stands : (t u : List ℕ) (us : List (List ℕ)) (k : ℕ) → (Fine t → Fine u → word t ≡ word u) → Sound k (u ∷ us) → Stands (t ∷ us) (u ∷ us)
off_stands t u us k f s = go (kind t) (kind u)
  where
    go : Kind t → Kind u → Stands (t ∷ us) (u ∷ us)
    go (bad r h) i = bad_line t r u us us h (stands_refl us) (λ e. blanks_stand us (u ∷ us) (behind_end k u us s e))
    go (blank e) (blank e') = rw (e, e') (same (stands_refl us))
    go (blank e) (good n h) = absurd (words t u e n (f (rw e tt) (good_fine u h)))
    go (blank e) (bad r h) = absurd (unrefused_not k u us r h s.unrefused)
    go (good n h) (blank e) = absurd (words u t e n (sym (f (good_fine t h) (rw e tt))))
    go (good n (kd, a, p, e)) (good n' h') = both t u n n' e (f (good_fine t (kd, a, p, e)) (good_fine u h'))
      where
        both : (t u : List ℕ) → t ≢ [] → u ≢ [] → judge t ≡ says kd a p → word t ≡ word u → Stands (t ∷ us) (u ∷ us)
        both [] u n n' e w = absurd (n refl)
        both (c ∷ t) [] n n' e w = absurd (n' refl)
        both (c ∷ t) (d ∷ u) n n' e w =
            let q : judge (d ∷ u) ≡ says kd a p = cc in
            respelt {u = d ∷ u} (meaning kd a p) (said_so (c ∷ t) kd a p e) (said_so (d ∷ u) kd a p q) (stands_refl us)
    go (good n h) (bad r h') = absurd (unrefused_not k u us r h' s.unrefused)

-- the same record in front
one_record : (t u : List ℕ) (ls us : List (List ℕ)) → SaysARecord t → u ≡ t → Stands ls us → Stands (t ∷ ls) (u ∷ us)
one_record t u ls us h e s = rw e (same s)

-- the lines of a text that goes on after these characters
text_lines : (m t : List ℕ) (us : List (List ℕ)) → NoLF m → Tail t → Stands (first_line (m ++ t) ∷ lines (drop 1 t)) us → Stands (lines (m ++ t)) us
unfolding lines
text_lines [] t us n ends s = broken_off
text_lines [] t us n (feeds r) s = rw (lines_cons LF r, cut_rest [] (LF ∷ r) n (feeds r)) s
text_lines (c ∷ m) t us n k s = rw (lines_cons c (m ++ t), cut_rest (c ∷ m) t n k) s

-- the same, as an equation, but for an empty text
data LinesOf (m t : List ℕ) : Type 0 where
  no_text : m ≡ [] → t ≡ [] → LinesOf m t
  some_text : lines (m ++ t) ≡ first_line (m ++ t) ∷ lines (drop 1 t) → LinesOf m t

lines_cut : (m t : List ℕ) → NoLF m → Tail t → LinesOf m t
lines_cut [] t n ends = no_text refl refl
lines_cut [] t n (feeds r) = some_text (rw (lines_cons LF r, cut_rest [] (LF ∷ r) n (feeds r)))
lines_cut (c ∷ m) t n k = some_text (rw (lines_cons c (m ++ t), cut_rest (c ∷ m) t n k))

-- a line that is none if it is fine
bare : (l : List ℕ) (us : List (List ℕ)) → (Fine l → l ≡ []) → Stands (l ∷ []) us
bare l us f = go (kind l)
  where
    go : Kind l → Stands (l ∷ []) us
    go (blank e) = rw e (gained broken_off)
    go (good n h) = absurd (n (f (good_fine l h)))
    go (bad r h) = damaged r [] h tt broken_off

nils : (xs ys : List ℕ) → xs ++ ys ≡ [] → (xs ≡ []) × (ys ≡ [])
nils [] ys e = (refl, e)
nils (x ∷ xs) ys e = absurd (nil≢cons (sym e))

-- ---- a colon stands first

hex_no_colon : {c x : ℕ} → hex.Hex c x → c ≢ 58
hex_no_colon (hex.decimal e h) z = omega arith
hex_no_colon (hex.capital e l h) z = omega arith
hex_no_colon (hex.small e l h) z = omega arith

spells_no_colon : {ds bs : List ℕ} → hex.Spells ds bs → Every (λ (c : ℕ). c ≢ 58) ds
spells_no_colon hex.none = tt
spells_no_colon (hex.more p q e s) = (hex_no_colon p, (hex_no_colon q, spells_no_colon s))

colon_at : (zs w : List ℕ) → ¬ Every (λ (c : ℕ). c ≢ 58) (zs ++ (58 ∷ w))
colon_at [] w (h, hs) = h refl
colon_at (z ∷ zs) w (h, hs) = colon_at zs w hs

no_colon_inside : (z : ℕ) (zs w : List ℕ) → ¬ SaysARecord (z ∷ (zs ++ (58 ∷ w)))
no_colon_inside z zs w (k, a, p, e) =
    let f = (admits (z ∷ (zs ++ (58 ∷ w))) k a p).0 e in
    colon_at zs w (subst (Every (λ (c : ℕ). c ≢ 58)) (sym (tail-eq_of_cons-eq f.starts)) (spells_no_colon f.spells))

begins : (b : List ℕ) → SaysARecord b → (w : List ℕ) × (b ≡ 58 ∷ w)
begins b (k, a, p, e) = let f = (admits b k a p).0 e in (f.digits, f.starts)

-- ---- a LF gained

module _ (wp wx wm a b u : List ℕ) (us bs : List (List ℕ)) (k : ℕ) (short : length wx ≤ 1) (is_a : Fine a → a ≡ wp) (is-u : Fine u → u ≡ wp ++ (wx ++ wm)) (is_b : Fine b → b ≡ wm) (through : (vs : List (List ℕ)) → Stands (b ∷ us) vs → Stands bs vs) (s : Sound k (u ∷ us)) where
  eu : u ≡ wp ++ (wx ++ wm)
  eu = is-u (sound_fine k u us s)

  inner_colon : (c : ℕ) (pre w : List ℕ) → u ≡ c ∷ (pre ++ (58 ∷ w)) → ⊥
  inner_colon c pre w e = no_colon_inside c pre w (subst SaysARecord e (fine_good u (λ z. nil≢cons (sym z ∙ e)) (sound_fine k u us s)))

  gained_feed : Stands (a ∷ bs) (u ∷ us)
  gained_feed = go (kind a) (kind b)
    where
      at_end : Says u end_of_file → Stands us (u ∷ us)
      at_end q = blanks_stand us (u ∷ us) (behind_end k u us s q)

      go : Kind a → Kind b → Stands (a ∷ bs) (u ∷ us)
      go (blank e) i =
          let z : wp ≡ [] = sym (is_a (rw e tt)) ∙ e in
          let eu' : u ≡ wx ++ wm = eu ∙ ap (λ (l : List ℕ). l ++ (wx ++ wm)) z in
          rw e (gained (through (u ∷ us) (off_stands b u us k (λ fb fu. ap word (is_b fb) ∙ edited [] [] wx wm (few (omega arith) short) (subst Fine (is_b fb) fb) (subst Fine eu' fu) ∙ sym (ap word eu')) s)))
      go (good n h) i =
          let ea : a ≡ wp = is_a (good_fine a h) in
          let eu' : u ≡ a ++ (wx ++ wm) = eu ∙ ap (λ (l : List ℕ). l ++ (wx ++ wm)) (sym ea) in
          let nu : u ≢ [] = λ z. n (nils a (wx ++ wm) (sym eu' ∙ z)).0 in
          let z : wx ++ wm ≡ [] = no_record_goes_on a (wx ++ wm) h (subst SaysARecord eu' (fine_good u nu (sound_fine k u us s))) in
          one_record a u bs us h (eu' ∙ ap (λ (l : List ℕ). a ++ l) z ∙ append-nil a) (through us (behind i (nils wx wm z).1))
        where
          behind : Kind b → wm ≡ [] → Stands (b ∷ us) us
          behind (blank e) z = rw e (gained (stands_refl us))
          behind (good n' h') z = absurd (n' (is_b (good_fine b h') ∙ z))
          behind (bad r h') z = damaged r [] h' tt (stands_refl us)
      go (bad r h) (blank e) =
          bad_line a r u bs us h (through us (rw e (gained (stands_refl us)))) (λ q. through (u ∷ us) (rw e (gained (at_end q))))
      go (bad r h) (bad r' h') =
          bad_line a r u bs us h (through us (damaged r' [] h' tt (stands_refl us))) (λ q. through (u ∷ us) (damaged r' [] h' tt (at_end q)))
      go (bad r h) (good n h') = let (w, e) = begins b h' in let z : wm ≡ 58 ∷ w = sym (is_b (good_fine b h')) ∙ e in second wp wx w e (eu ∙ ap (λ (l : List ℕ). wp ++ (wx ++ l)) z)
        where
          second : (wp wx w : List ℕ) → b ≡ 58 ∷ w → u ≡ wp ++ (wx ++ (58 ∷ w)) → Stands (a ∷ bs) (u ∷ us)
          second [] [] w e q = damaged r [] h tt (through (u ∷ us) (one_record b u us us h' (q ∙ sym e) (stands_refl us)))
          second [] (x ∷ wx) w e q = absurd (inner_colon x wx w q)
          second (c ∷ wp) wx w e q = absurd (inner_colon c (wp ++ wx) w (q ∙ ap (λ (l : List ℕ). c ∷ l) (sym (append_assoc wp wx (58 ∷ w)))))

-- ---- a LF lost

module _ (wp wy wm a b e : List ℕ) (us : List (List ℕ)) (k : ℕ) (short : length wy ≤ 1) (is_a : Fine a → a ≡ wp) (is-e : Fine e → e ≡ wp ++ (wy ++ wm)) (is_b : Fine b → b ≡ wm) (s : Sound k (a ∷ b ∷ us)) where
  -- a record stands first: nothing was joined to it
  joined : SaysARecord a → SaysARecord e → (e ≡ a) × (wm ≡ [])
  joined ha he =
      let e' : e ≡ a ++ (wy ++ wm) = is-e (good_fine e he) ∙ ap (λ (l : List ℕ). l ++ (wy ++ wm)) (sym (is_a (good_fine a ha))) in
      let z : wy ++ wm ≡ [] = no_record_goes_on a (wy ++ wm) ha (subst SaysARecord e' he) in
      (e' ∙ ap (λ (l : List ℕ). a ++ l) z ∙ append-nil a, (nils wy wm z).1)

  fa : Fine a
  fa = sound_fine k a (b ∷ us) s

  lost_feed : Stands (e ∷ us) (a ∷ b ∷ us)
  lost_feed = go (end_or_on a)
    where
      at_end : Says a end_of_file → Kind e → Stands (e ∷ us) (a ∷ b ∷ us)
      at_end q (blank z) = rw z (gained (blanks_stand us (a ∷ b ∷ us) (behind_end k a (b ∷ us) s q).1))
      at_end q (bad r h) = damaged r [] h tt (blanks_stand us (a ∷ b ∷ us) (behind_end k a (b ∷ us) s q).1)
      at_end q (good n h) =
          let ha : SaysARecord a = fine_good a (λ z. empty_says end_of_file (subst (λ (x : List ℕ). Says x end_of_file) z q)) fa in
          ended (subst (λ (x : List ℕ). Says x end_of_file) (sym (joined ha h).0) q) q

      further : GoesOn a → Sound (suc k) (b ∷ us) → Kind e → Kind a → Stands (e ∷ us) (a ∷ b ∷ us)
      further g s' (blank z) i =
          let (p, q) = nils wp (wy ++ wm) (sym (is-e (rw z tt)) ∙ z) in
          let ea : a ≡ [] = is_a fa ∙ p in
          let eb : b ≡ [] = is_b (sound_fine (suc k) b us s') ∙ (nils wy wm q).1 in
          rw (z, ea, eb) (same (lost (stands_refl us)))
      further g s' (good n h) (blank z) =
          let wz : wp ≡ [] = sym (is_a fa) ∙ z in
          let e' : e ≡ wy ++ wm = is-e (good_fine e h) ∙ ap (λ (l : List ℕ). l ++ (wy ++ wm)) wz in
          rw z (lost (off_stands e b us (suc k) (λ fe fb. ap word e' ∙ edited [] wy [] wm (few short (omega arith)) (subst Fine e' fe) (subst Fine (is_b fb) fb) ∙ sym (ap word (is_b fb))) s'))
      further g s' (good n h) (good na ha) =
          let (p, q) = joined ha h in
          let eb : b ≡ [] = is_b (sound_fine (suc k) b us s') ∙ q in
          rw eb (one_record e a us ([] ∷ us) h (sym p) (lost (stands_refl us)))
      further g s' (good n h) (bad r h') = absurd (unrefused_not k a (b ∷ us) r h' s.unrefused)
      further g s' (bad r h) i = last_one (end_or_on b)
        where
          last_one : Says b end_of_file ⊎ GoesOn b → Stands (e ∷ us) (a ∷ b ∷ us)
          last_one (inl q) = damaged r (a ∷ []) h (g, tt) (blanks_stand us (b ∷ us) (behind_end (suc k) b us s' q))
          last_one (inr g') = damaged r (a ∷ b ∷ []) h (g, (g', tt)) (stands_refl us)

      go : Says a end_of_file ⊎ GoesOn a → Stands (e ∷ us) (a ∷ b ∷ us)
      go (inl q) = at_end q (kind e)
      go (inr g) = further g (sound_tail k a (b ∷ us) g s) (kind e) (kind a)

-- ---- a byte or none in place of a byte or none

edit_open : (p x y q : List ℕ) → NoLF p → length x ≤ 1 → length y ≤ 1 → (k : ℕ) → Sound k (lines (p ++ (x ++ q))) → Stands (lines (p ++ (y ++ q))) (lines (p ++ (x ++ q)))
unfolding lines
edit_open p x y q n hx hy k s =
    let c = first_cut q in
    subst (λ (z : List ℕ). Sound k (lines (p ++ (x ++ z))) → Stands (lines (p ++ (y ++ z))) (lines (p ++ (x ++ z)))) (sym c.whole)
    (go c.front c.tail c.plain c.is_tail (feed_or_not x hx) (feed_or_not y hy)) s
  where
    regroup : (x m t : List ℕ) → (p ++ (x ++ m)) ++ t ≡ p ++ (x ++ (m ++ t))
    regroup x m t = simp append_assoc

    wp : List ℕ
    wp = without_CR p

    -- no LF on either side
    plain_edit : (m t : List ℕ) → NoLF m → Tail t → NoLF x → NoLF y → Sound k (lines ((p ++ (x ++ m)) ++ t)) → Stands (lines ((p ++ (y ++ m)) ++ t)) (lines ((p ++ (x ++ m)) ++ t))
    plain_edit m t nm kt nx ny s = pick (lines_cut (p ++ (x ++ m)) t nX kt)
      where
        nX : NoLF (p ++ (x ++ m))
        nX = no_LF_append p (x ++ m) n (no_LF_append x m nx nm)

        nY : NoLF (p ++ (y ++ m))
        nY = no_LF_append p (y ++ m) n (no_LF_append y m ny nm)

        l : List ℕ
        l = first_line ((p ++ (y ++ m)) ++ t)

        is_l : Fine l → l ≡ wp ++ (without_CR y ++ without_CR m)
        is_l f = fine_line (p ++ (y ++ m)) t nY kt f ∙ without_parts p y m

        pick : LinesOf (p ++ (x ++ m)) t → Stands (lines ((p ++ (y ++ m)) ++ t)) (lines ((p ++ (x ++ m)) ++ t))
        pick (no_text e z) = text_lines (p ++ (y ++ m)) t (lines ((p ++ (x ++ m)) ++ t)) nY kt (subst (λ (v : List ℕ). Stands (l ∷ lines (drop 1 v)) (lines ((p ++ (x ++ m)) ++ t))) (sym z) (bare l (lines ((p ++ (x ++ m)) ++ t)) none_there))
          where
            none_there : Fine l → l ≡ []
            none_there f =
                let w : wp ++ (without_CR x ++ without_CR m) ≡ [] = sym (without_parts p x m) ∙ ap without_CR e in
                empty_word l
                (ap word (is_l f)
                ∙ edited wp (without_CR y) (without_CR x) (without_CR m) (few (without_few y hy) (without_few x hx)) (subst Fine (is_l f) f) (rw w tt)
                ∙ ap word w)
              where
                empty_word : (l : List ℕ) → word l ≡ word [] → l ≡ []
                empty_word [] w = refl
                empty_word (c ∷ l) w = cc
        pick (some_text e) =
            let u = first_line ((p ++ (x ++ m)) ++ t) in
            let is-u : Fine u → u ≡ wp ++ (without_CR x ++ without_CR m) = λ f. fine_line (p ++ (x ++ m)) t nX kt f ∙ without_parts p x m in
            rw e
            (text_lines (p ++ (y ++ m)) t (u ∷ lines (drop 1 t)) nY kt
            (off_stands l u (lines (drop 1 t)) k
            (λ f g. ap word (is_l f) ∙ edited wp (without_CR y) (without_CR x) (without_CR m) (few (without_few y hy) (without_few x hx)) (subst Fine (is_l f) f) (subst Fine (is-u g) g) ∙ sym (ap word (is-u g)))
            (subst (Sound k) e s)))

    -- a LF came
    with_feed : (m t : List ℕ) → NoLF m → Tail t → NoLF x → Sound k (lines ((p ++ (x ++ m)) ++ t)) → Stands (lines (p ++ (LF ∷ (m ++ t)))) (lines ((p ++ (x ++ m)) ++ t))
    with_feed m t nm kt nx s = text_lines p (LF ∷ (m ++ t)) (lines ((p ++ (x ++ m)) ++ t)) n (feeds (m ++ t)) (pick (lines_cut (p ++ (x ++ m)) t nX kt))
      where
        nX : NoLF (p ++ (x ++ m))
        nX = no_LF_append p (x ++ m) n (no_LF_append x m nx nm)

        a : List ℕ
        a = first_line (p ++ (LF ∷ (m ++ t)))

        is_a : Fine a → a ≡ wp
        is_a f = fine_line p (LF ∷ (m ++ t)) n (feeds (m ++ t)) f

        pick : LinesOf (p ++ (x ++ m)) t → Stands (a ∷ lines (m ++ t)) (lines ((p ++ (x ++ m)) ++ t))
        pick (no_text e z) =
            let (pe, r) = nils p (x ++ m) e in
            let me = (nils x m r).1 in
            let le : lines (m ++ t) ≡ [] = ap lines (ap (λ (v : List ℕ). v ++ t) me ∙ z) in
            subst (λ (v : List (List ℕ)). Stands (a ∷ v) (lines ((p ++ (x ++ m)) ++ t))) (sym le) (bare a (lines ((p ++ (x ++ m)) ++ t)) (λ f. is_a f ∙ ap without_CR pe))
        pick (some_text e) =
            let u = first_line ((p ++ (x ++ m)) ++ t) in
            rw e
            (gained_feed wp (without_CR x) (without_CR m) a (first_line (m ++ t)) u (lines (drop 1 t)) (lines (m ++ t)) k (without_few x hx) is_a
            (λ f. fine_line (p ++ (x ++ m)) t nX kt f ∙ without_parts p x m) (fine_line m t nm kt) (λ vs. text_lines m t vs nm kt) (subst (Sound k) e s))

    -- a LF went
    without_feed : (m t : List ℕ) → NoLF m → Tail t → NoLF y → Sound k (lines (p ++ (LF ∷ (m ++ t)))) → Stands (lines ((p ++ (y ++ m)) ++ t)) (lines (p ++ (LF ∷ (m ++ t))))
    without_feed m t nm kt ny s = pick (lines_cut p (LF ∷ (m ++ t)) n (feeds (m ++ t)))
      where
        nY : NoLF (p ++ (y ++ m))
        nY = no_LF_append p (y ++ m) n (no_LF_append y m ny nm)

        a : List ℕ
        a = first_line (p ++ (LF ∷ (m ++ t)))

        l : List ℕ
        l = first_line ((p ++ (y ++ m)) ++ t)

        is_a : Fine a → a ≡ wp
        is_a f = fine_line p (LF ∷ (m ++ t)) n (feeds (m ++ t)) f

        is_l : Fine l → l ≡ wp ++ (without_CR y ++ without_CR m)
        is_l f = fine_line (p ++ (y ++ m)) t nY kt f ∙ without_parts p y m

        inner : LinesOf m t → Sound k (a ∷ lines (m ++ t)) → Stands (l ∷ lines (drop 1 t)) (a ∷ lines (m ++ t))
        inner (no_text e z) s =
            let le : lines (m ++ t) ≡ [] = ap lines (ap (λ (v : List ℕ). v ++ t) e ∙ z) in
            let re : lines (drop 1 t) ≡ [] = ap (λ (v : List ℕ). lines (drop 1 v)) z in
            let we : without_CR m ≡ [] = ap without_CR e in
            let is-l' : Fine l → l ≡ wp ++ (without_CR y ++ []) = λ f. is_l f ∙ ap (λ (v : List ℕ). wp ++ (without_CR y ++ v)) we in
            let is-a' : Fine a → a ≡ wp ++ ([] ++ []) = λ f. is_a f ∙ sym (append-nil wp) in
            rw (le, re)
            (off_stands l a [] k
            (λ f g. ap word (is-l' f) ∙ edited wp (without_CR y) [] [] (few (without_few y hy) (omega arith)) (subst Fine (is-l' f) f) (subst Fine (is-a' g) g) ∙ sym (ap word (is-a' g)))
            (subst (λ (v : List (List ℕ)). Sound k (a ∷ v)) le s))
        inner (some_text e) s =
            rw e
            (lost_feed wp (without_CR y) (without_CR m) a (first_line (m ++ t)) l (lines (drop 1 t)) k (without_few y hy) is_a is_l (fine_line m t nm kt)
            (subst (λ (v : List (List ℕ)). Sound k (a ∷ v)) e s))

        pick : LinesOf p (LF ∷ (m ++ t)) → Stands (lines ((p ++ (y ++ m)) ++ t)) (lines (p ++ (LF ∷ (m ++ t))))
        pick (no_text e z) = absurd (nil≢cons (sym z))
        pick (some_text e) = rw e (text_lines (p ++ (y ++ m)) t (a ∷ lines (m ++ t)) nY kt (inner (lines_cut m t nm kt) (subst (Sound k) e s)))

    go : (m t : List ℕ) → NoLF m → Tail t → NoLF x ⊎ (x ≡ LF ∷ []) → NoLF y ⊎ (y ≡ LF ∷ []) → Sound k (lines (p ++ (x ++ (m ++ t)))) → Stands (lines (p ++ (y ++ (m ++ t)))) (lines (p ++ (x ++ (m ++ t))))
    go m t nm kt (inl nx) (inl ny) = rw (← (regroup x m t), ← (regroup y m t)) (plain_edit m t nm kt nx ny)
    go m t nm kt (inl nx) (inr ey) = rw (ey, ← (regroup x m t)) (with_feed m t nm kt nx)
    go m t nm kt (inr ex) (inl ny) = rw (ex, ← (regroup y m t)) (without_feed m t nm kt ny)
    go m t nm kt (inr ex) (inr ey) = rw (ex, ey) (λ s. stands_refl (lines (p ++ (LF ∷ (m ++ t)))))

pub one_byte_off : OneByteOff
unfolding row
one_byte_off p x y q hx hy u nb =
    let k = last_cut p in
    let at : (r : List ℕ) → lines (p ++ r) ≡ lines k.head ++ lines (k.open_part ++ r) =
    λ r. ap (λ (l : List ℕ). lines (l ++ r)) k.whole ∙ ap lines (append_assoc k.head k.open_part r) ∙ lines_closed k.is_closed (k.open_part ++ r) in
    let hs = lines k.head in
    let us = lines (k.open_part ++ (x ++ q)) in
    salvage_in_order (p ++ (y ++ q)) (p ++ (x ++ q))
    (rw (at (y ++ q), at (x ++ q))
    (ahead_same hs (lines (k.open_part ++ (y ++ q))) us 1 (subst (Unrefused 1) (at (x ++ q)) u)
    (λ k' v. edit_open k.open_part x y q k.plain hx hy k' (record { unrefused = v; no_more = no_more_behind hs us (subst NothingBehind (at (x ++ q)) nb) }))))
    u
