-- A word by itself, as a name that is given to a call: why some bytes are none, by the rule of a line.
use Rattle.std.specs.Prelude.{◌≡◌, ℕ, suc, cond, List, [], ◌∷◌, Some, None, Option, ◌==◌, nat_lt}
use Rattle.rights.specs.declared.refusal.Refusal.{Refusal}
use Rattle.rights.specs.declared.refusal.Refusal.TheVariants.{BadByte, LineBroken, WordTooLong}
use Rattle.grammar.specs.Limits.{max_word}
use Rattle.grammar.specs.Bytes.{Class, word_byte, opening, closing, space, line_end, bad, class}
use Rattle.grammar.specs.Items.{GoodWord}

-- a byte of this class after k bytes of a word; `later` is what the bytes after it come to
abbrev pub word_step : Class → ℕ → Option Refusal → Option Refusal
word_step word_byte k later = cond (nat_lt k max_word) later (Some WordTooLong)
word_step bad k later = Some BadByte
word_step opening k later = Some LineBroken
word_step closing k later = Some LineBroken
word_step space k later = Some LineBroken
word_step line_end k later = Some LineBroken

-- why k bytes of a word and then these are no word, if they are none
abbrev pub word_fault : ℕ → List ℕ → Option Refusal
word_fault k [] = cond (k == 0) (Some LineBroken) None
word_fault k (b ∷ bs) = let later = word_fault (suc k) bs in word_step (class b) k later

-- why the bytes are no word, if they are none
abbrev pub not_a_word : List ℕ → Option Refusal
not_a_word bytes = word_fault 0 bytes

-- The bytes are a word exactly when nothing is wrong with them.
pub record WordsJudged : Type 0 where
  pub none_wrong : (w : List ℕ) → GoodWord w → not_a_word w ≡ None
  pub only_words : (w : List ℕ) → not_a_word w ≡ None → GoodWord w
