-- A scheme: the names of its rights and types, each at its number, and its book.
use Rattle.std.specs.Prelude.{ℕ, List, [], length}
use Rattle.rows.specs.Rules.{Book, empty_book}
use Rattle.rows.specs.Drafts.{Declared}

pub record Names : Type 0 where
  pub rights : List (List ℕ)
  pub subject_types : List (List ℕ)
  pub object_types : List (List ℕ)

pub record Named : Type 0 where
  pub names : Names
  pub book : Book

-- the empty scheme
abbrev pub nothing_named : Named
nothing_named = record { names = record { rights = []; subject_types = []; object_types = [] }; book = empty_book }

-- the scheme by number: as many of each kind are declared as have names
abbrev pub numbered : Named → Declared
numbered s = record {
  counts = record { rights = length s.names.rights; subject_types = length s.names.subject_types; object_types = length s.names.object_types };
  book = s.book;
}
