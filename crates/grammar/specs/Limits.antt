-- How long a word, how deep a list and how long a text may be.
use Rattle.std.specs.Prelude.{ℕ}

-- bytes of a word
abbrev pub max_word : ℕ
max_word = 24

-- lists inside one another, the form itself included
abbrev pub max_depth : ℕ
max_depth = 8

-- bytes of a text
abbrev pub max_text : ℕ
max_text = 4194304
