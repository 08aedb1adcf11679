-- What reading a line means, without the machine.
use Rattle.std.specs.Prelude.{◌≡◌, ℕ, suc, pred, ◌⊎◌, List, [], ◌∷◌, ◌++◌, length, ◌≢◌}
use Rattle.grammar.specs.Bytes.{Class, word_byte, opening, closing, space, line_end, bad, class}
use Rattle.grammar.specs.Items.{Items, render, GoodForm, GoodLine}
use Rattle.grammar.specs.Reader.{reason, formed, not_read, read}
use Rattle.rights.specs.declared.refusal.Refusal.{Refusal}
use Rattle.rights.specs.declared.refusal.Refusal.TheVariants.{LineBroken}

-- A good line is read: its form, and what follows.
abbrev pub GoodLinesRead : Type 0
GoodLinesRead = (F : Items) (rest : List ℕ) → GoodForm F → read (render F ++ (10 ∷ rest)) ≡ formed F rest

-- What is read is a good line.
abbrev pub OnlyGoodLines : Type 0
OnlyGoodLines =
    (text : List ℕ) (F : Items) (rest : List ℕ) → read text ≡ formed F rest
    → GoodForm F × (text ≡ render F ++ (10 ∷ rest))

-- some good line begins with these bytes
abbrev pub BeginsLine : List ℕ → Type 0
BeginsLine front = (more : List ℕ) × GoodLine (front ++ more)

-- how many lists are open after some bytes: the opening brackets less the closing ones, from d on
abbrev pub lists_by : Class → ℕ → ℕ
lists_by opening d = suc d
lists_by closing d = pred d
lists_by word_byte d = d
lists_by space d = d
lists_by line_end d = d
lists_by bad d = d

abbrev pub lists_after : ℕ → List ℕ → ℕ
lists_after d [] = d
lists_after d (b ∷ bs) = lists_after (lists_by (class b) d) bs

-- how many word bytes stand in a row at the end of some bytes, where k stand before them
abbrev pub letters_by : Class → ℕ → ℕ
letters_by word_byte k = suc k
letters_by opening k = 0
letters_by closing k = 0
letters_by space k = 0
letters_by line_end k = 0
letters_by bad k = 0

abbrev pub letters_after : ℕ → List ℕ → ℕ
letters_after k [] = k
letters_after k (b ∷ bs) = letters_after (letters_by (class b) k) bs

-- Why the reading stops after `front`: the text ends there, or no good line goes on with the next byte.
abbrev pub Stopped : Refusal → List ℕ → List ℕ → Type 0
Stopped why front [] = why ≡ LineBroken
Stopped why front (b ∷ rest) =
    (BeginsLine (front ++ (b ∷ [])) → ⊥) × (why ≡ reason (class b) (lists_after 0 front) (letters_after 0 front))

-- A refusal at the offset k: the k bytes before it begin some good line, with the next byte they begin none.
pub record RefusedAt (text : List ℕ) (why : Refusal) (k : ℕ) : Type 0 where
  pub front : List ℕ
  pub rest : List ℕ
  pub parts : text ≡ front ++ rest
  pub offset : k ≡ length front
  pub begins : BeginsLine front
  pub stopped : Stopped why front rest
  -- and no good line stands at the start of the text
  pub no_line : (F : Items) (after : List ℕ) → GoodForm F → text ≢ render F ++ (10 ∷ after)

abbrev pub RefusedAtFirst : Type 0
RefusedAtFirst = (text : List ℕ) (why : Refusal) (k : ℕ) → read text ≡ not_read why k → RefusedAt text why k

-- One of the two is always the case.
abbrev pub AlwaysAnswers : Type 0
AlwaysAnswers =
    (text : List ℕ) → ((F : Items) × (rest : List ℕ) × (read text ≡ formed F rest)) ⊎ ((why : Refusal) × (k : ℕ) × (read text ≡ not_read why k))

-- The words above settle the answer: no text has two refusals, nor a refusal and a line.
abbrev pub RefusalsSettle : Type 0
RefusalsSettle = (text : List ℕ) (why : Refusal) (k : ℕ) → RefusedAt text why k → read text ≡ not_read why k
