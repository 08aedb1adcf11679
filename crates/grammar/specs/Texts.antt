-- A whole text: its lines, one form each, numbered from 1, up to the first that is refused.
use Rattle.std.specs.Prelude.{◌≡◌, ℕ, zero, suc, ◌<◌, List, [], ◌∷◌, ◌++◌, length}
use Rattle.grammar.specs.Items.{Items, render, GoodForm}
use Rattle.grammar.specs.Reader.{Reading, formed, not_read, read}
use Rattle.grammar.specs.Claims.{RefusedAt}
use Rattle.rights.specs.declared.refusal.Refusal.{Refusal}

pub data Split : Type 0 where
  -- all lines were read, to these forms
  all_lines : List Items → Split
  -- line_refused Fs m why k: after the forms Fs the line m was refused, at its offset k
  line_refused : List Items → ℕ → Refusal → ℕ → Split

abbrev pub before : Items → Split → Split
before F (all_lines Fs) = all_lines (F ∷ Fs)
before F (line_refused Fs m why k) = line_refused (F ∷ Fs) m why k

abbrev pub on_line : Reading → ℕ → (List ℕ → Split) → Split
on_line (formed F rest) m more = before F (more rest)
on_line (not_read why k) m more = line_refused [] m why k

-- the lines of a text, from line m on; there is fuel enough where it is as long as the text
abbrev pub split_from : ℕ → ℕ → List ℕ → Split
split_from zero m text = all_lines []
split_from (suc fuel) m [] = all_lines []
split_from (suc fuel) m (b ∷ bs) = on_line (read (b ∷ bs)) m (λ rest. split_from fuel (suc m) rest)

abbrev pub split : List ℕ → Split
split text = split_from (length text) 1 text

-- the text of some forms, a line each
abbrev pub lines_of : List Items → List ℕ
lines_of [] = []
lines_of (F ∷ Fs) = (render F ++ (10 ∷ [])) ++ lines_of Fs

abbrev pub EachGood : List Items → Type 0
EachGood [] = Unit {0}
EachGood (F ∷ Fs) = GoodForm F × EachGood Fs

-- what a split says of the text
pub record AllLines (text : List ℕ) (Fs : List Items) : Type 0 where
  pub good : EachGood Fs
  pub whole : text ≡ lines_of Fs

pub record LineRefused (text : List ℕ) (Fs : List Items) (m : ℕ) (why : Refusal) (k : ℕ) : Type 0 where
  pub good : EachGood Fs
  pub line : m ≡ suc (length Fs)
  pub rest : List ℕ
  pub parts : text ≡ lines_of Fs ++ rest
  pub some : 0 < length rest
  pub refusal : RefusedAt rest why k

abbrev pub Tells : List ℕ → Split → Type 0
Tells text (all_lines Fs) = AllLines text Fs
Tells text (line_refused Fs m why k) = LineRefused text Fs m why k

-- Each text is split as its split says, and a text of good lines to just those.
abbrev pub TextsSplit : Type 0
TextsSplit = (text : List ℕ) → Tells text (split text)

abbrev pub GoodTextsSplit : Type 0
GoodTextsSplit = (Fs : List Items) → EachGood Fs → split (lines_of Fs) ≡ all_lines Fs

-- and the text alone settles it
abbrev pub OneSplit : Type 0
OneSplit = (text : List ℕ) (s : Split) → Tells text s → split text ≡ s
