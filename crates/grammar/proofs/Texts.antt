-- Whole texts.
use Rattle.std.proofs.Common.{◌≡◌, ℕ, zero, suc, ◌+◌, ◌<◌, ◌≤◌, List, [], ◌∷◌, ◌++◌, length, sym, refl, ap, ◌∙◌, append_assoc, append-nil, add-zero, arith, length-append}
use Rattle.grammar.specs.Items.{Items, render, GoodForm}
use Rattle.grammar.specs.Reader.{Reading, formed, not_read, read}
use Rattle.grammar.specs.Claims.{RefusedAt}
use Rattle.grammar.specs.Texts.{Split, all_lines, line_refused, before, on_line, split_from, split, lines_of, EachGood, AllLines, LineRefused, Tells, TextsSplit, GoodTextsSplit, OneSplit}
use Rattle.rights.specs.declared.refusal.Refusal.{Refusal}
use Rattle.grammar.proofs.Claims.{good_lines_read, only_good_lines, refused_at_first}
use Rattle.grammar.proofs.Settles.{refusals_settle}

-- from line m on
abbrev TellsFrom : ℕ → List ℕ → Split → Type 0
TellsFrom m text (all_lines Fs) = AllLines text Fs
TellsFrom m text (line_refused Fs l n k) = (l ≡ m + length Fs) × ((j : ℕ) → j ≡ suc (length Fs) → LineRefused text Fs j n k)

line_front : (F : Items) (rest : List ℕ) → render F ++ (10 ∷ rest) ≡ (render F ++ (10 ∷ [])) ++ rest
line_front F rest = sym (append_assoc (render F) (10 ∷ []) rest)

one_more : (m : ℕ) (text : List ℕ) (F : Items) (rest : List ℕ) (s : Split) → GoodForm F → text ≡ render F ++ (10 ∷ rest) → TellsFrom (suc m) rest s → TellsFrom m text (before F s)
one_more m text F rest (all_lines Fs) g e h =
    record { good = (g, h.good); whole = e ∙ line_front F rest ∙ ap (λ l. (render F ++ (10 ∷ [])) ++ l) h.whole }
one_more m text F rest (line_refused Fs l n k) g e (number, told) = (
  omega arith,
  λ j is. let h = told (suc (length Fs)) refl in
      record {
        good = (g, h.good);
        line = is;
        rest = h.rest;
        parts = e ∙ line_front F rest ∙ ap (λ x. (render F ++ (10 ∷ [])) ++ x) h.parts ∙ sym (append_assoc (render F ++ (10 ∷ [])) (lines_of Fs) h.rest);
        some = h.some;
        refusal = h.refusal;
      },
)

shorter : (text : List ℕ) (F : Items) (rest : List ℕ) → text ≡ render F ++ (10 ∷ rest) → length rest < length text
shorter text F rest e = omega (arith, simp length-append at (ap length e))

tells_on : (b : ℕ) (bs : List ℕ) (m fuel : ℕ) → length bs ≤ fuel → ((rest : List ℕ) → length rest ≤ fuel → TellsFrom (suc m) rest (split_from fuel (suc m) rest))
    → (r : Reading) → read (b ∷ bs) ≡ r → TellsFrom m (b ∷ bs) (on_line r m (λ rest. split_from fuel (suc m) rest))
tells_on b bs m fuel l more (formed F rest) e =
    let h = only_good_lines (b ∷ bs) F rest e in
    let short : length rest ≤ fuel = omega (arith, shorter (b ∷ bs) F rest h.1) in
    one_more m (b ∷ bs) F rest (split_from fuel (suc m) rest) h.0 h.1 (more rest short)
tells_on b bs m fuel l more (not_read n k) e = (
  sym (add-zero m),
  λ j is. record {
    good = tt;
    line = is;
    rest = b ∷ bs;
    parts = refl;
    some = omega arith;
    refusal = refused_at_first (b ∷ bs) n k e;
  },
)

tells_from : (fuel m : ℕ) (text : List ℕ) → length text ≤ fuel → TellsFrom m text (split_from fuel m text)
tells_from zero m [] l = record { good = tt; whole = refl }
tells_from zero m (b ∷ bs) l = absurd (omega arith)
tells_from (suc fuel) m [] l = record { good = tt; whole = refl }
tells_from (suc fuel) m (b ∷ bs) l =
    let short : length bs ≤ fuel = omega arith in
    tells_on b bs m fuel short (λ rest h. tells_from fuel (suc m) rest h) (read (b ∷ bs)) refl

from_one : (text : List ℕ) (s : Split) → TellsFrom 1 text s → Tells text s
from_one text (all_lines Fs) h = h
from_one text (line_refused Fs l n k) (number, told) = told l (omega arith)

pub texts_split : TextsSplit
texts_split text = from_one text (split text) (tells_from (length text) 1 text (omega arith))

-- the forms of the first lines, and then what the rest is split to
abbrev pub befores : List Items → Split → Split
befores [] s = s
befores (F ∷ Fs) s = before F (befores Fs s)

step_line : (fuel m : ℕ) (F : Items) (rest : List ℕ) → GoodForm F → split_from (suc fuel) m (render F ++ (10 ∷ rest)) ≡ before F (split_from fuel (suc m) rest)
step_line fuel m F rest g = ap (λ r. on_line r m (λ x. split_from fuel (suc m) x)) (good_lines_read F rest g)

-- fuel that is enough gives what any other does
pub over_lines : (Fs : List Items) (rest : List ℕ) → EachGood Fs → (fuel m : ℕ) → length (lines_of Fs ++ rest) ≤ fuel
    → (left : ℕ) × (length rest ≤ left) × (split_from fuel m (lines_of Fs ++ rest) ≡ befores Fs (split_from left (m + length Fs) rest))
over_lines [] rest g fuel m l = (fuel, l, ap (λ x. split_from fuel x rest) (sym (add-zero m)))
over_lines (F ∷ Fs) rest g zero m l = absurd (omega arith)
over_lines (F ∷ Fs) rest g (suc fuel) m l =
    let tail = lines_of Fs ++ rest in
    let same : ((render F ++ (10 ∷ [])) ++ lines_of Fs) ++ rest ≡ render F ++ (10 ∷ tail) = append_assoc (render F ++ (10 ∷ [])) (lines_of Fs) rest ∙ append_assoc (render F) (10 ∷ []) tail in
    let short : length tail ≤ fuel = omega (arith, shorter (((render F ++ (10 ∷ [])) ++ lines_of Fs) ++ rest) F tail same) in
    let (left, enough, e) = over_lines Fs rest g.1 fuel (suc m) short in
    let sum : suc m + length Fs ≡ m + suc (length Fs) = omega arith in (
      left,
      enough,
      ap (split_from (suc fuel) m) same ∙ step_line fuel m F tail g.0 ∙ ap (before F) e
          ∙ ap (λ x. before F (befores Fs (split_from left x rest))) sum,
    )

befores_all : (Fs : List Items) → befores Fs (all_lines []) ≡ all_lines Fs
befores_all [] = refl
befores_all (F ∷ Fs) = ap (before F) (befores_all Fs)

befores_refused : (Fs : List Items) (m : ℕ) (n : Refusal) (k : ℕ) → befores Fs (line_refused [] m n k) ≡ line_refused Fs m n k
befores_refused [] m n k = refl
befores_refused (F ∷ Fs) m n k = ap (before F) (befores_refused Fs m n k)

none_left : (left m : ℕ) → split_from left m [] ≡ all_lines []
none_left zero m = refl
none_left (suc left) m = refl

pub good_texts_split : GoodTextsSplit
good_texts_split Fs g =
    let long : length (lines_of Fs ++ []) ≤ length (lines_of Fs) = simp append-nil (omega arith) in
    let (left, enough, e) = over_lines Fs [] g (length (lines_of Fs)) 1 long in
    ap (split_from (length (lines_of Fs)) 1) (sym (append-nil (lines_of Fs))) ∙ e ∙ ap (befores Fs) (none_left left (1 + length Fs)) ∙ befores_all Fs

stopped_line : (left m : ℕ) (n : Refusal) (k : ℕ) (rest : List ℕ) → 0 < length rest → length rest ≤ left → RefusedAt rest n k → split_from left m rest ≡ line_refused [] m n k
stopped_line left m n k [] some l R = absurd (omega arith)
stopped_line zero m n k (b ∷ bs) some l R = absurd (omega arith)
stopped_line (suc left) m n k (b ∷ bs) some l R = ap (λ r. on_line r m (λ x. split_from left (suc m) x)) (refusals_settle (b ∷ bs) n k R)

pub one_split : OneSplit
one_split text (all_lines Fs) h = ap split h.whole ∙ good_texts_split Fs h.good
one_split text (line_refused Fs m n k) h =
    let rest = h.rest in
    let whole = lines_of Fs ++ rest in
    let (left, enough, e) = over_lines Fs rest h.good (length whole) 1 (omega arith) in
    let number : 1 + length Fs ≡ m = omega (arith, h.line) in
    ap split h.parts ∙ e ∙ ap (befores Fs) (stopped_line left (1 + length Fs) n k rest h.some enough h.refusal)
    ∙ befores_refused Fs (1 + length Fs) n k ∙ ap (λ l. line_refused Fs l n k) number

-- a text that begins with good lines is split into these, and then as the rest is
pub split_begins : (Fs : List Items) (rest : List ℕ) → EachGood Fs → (s : Split) × (split (lines_of Fs ++ rest) ≡ befores Fs s)
split_begins Fs rest good =
    let (left, enough, e) = over_lines Fs rest good (length (lines_of Fs ++ rest)) 1 (omega arith) in
    (split_from left (1 + length Fs) rest, e)
