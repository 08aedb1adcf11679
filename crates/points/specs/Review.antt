-- The paper review, as its declarations make it.
use Rattle.std.specs.Prelude.{ℕ, true, false, [], ◌∷◌, replicate, Some, None}
use Rattle.rights.specs.Limits.{max_rights}
use Rattle.monitor.specs.States.{State, empty_table}
use Rattle.monitor.specs.Machine.{build_subject, build_object, build_holding}
use Rattle.rows.specs.Drafts.{Declared, nothing_declared, declare_right, declare_subject_type, declare_object_type, declare_owner, declare_creation, declare_row}
use Rattle.flags.specs.declared.settings.Settings.{Settings}
use Rattle.flags.specs.declared.settings.FreshFlag.TheVariants.{Counted}

-- rights
abbrev pub own : ℕ
own = 0

abbrev pub seen : ℕ
seen = 1

abbrev pub ok : ℕ
ok = 2

abbrev pub print : ℕ
print = 3

-- types of subjects, and the type of objects
abbrev pub author : ℕ
author = 0

abbrev pub checker : ℕ
checker = 1

abbrev pub paper : ℕ
paper = 0

-- four rights, two types of subjects, one type of objects
abbrev pub named : Declared
named =
    let rights = (declare_right (declare_right (declare_right (declare_right nothing_declared).0).0).0).0 in
    (declare_object_type (declare_subject_type (declare_subject_type rights).0).0).0

-- own marks an owner; an author owns the papers that it creates; an author with own may give a checker seen; a checker with
-- seen may give an author ok; an author with own and ok may add print
abbrev pub review : Declared
review =
    let owned = (declare_owner named own).0 in
    let created = (declare_creation owned author paper (own ∷ [])).0 in
    let shown = (declare_row created author (Some checker) paper (own ∷ []) (seen ∷ [])).0 in
    let passed = (declare_row shown checker (Some author) paper (seen ∷ []) (ok ∷ [])).0 in
    (declare_row passed author None paper (own ∷ ok ∷ []) (print ∷ [])).0

-- subjects, and an object
abbrev pub ann : ℕ
ann = 0

abbrev pub ben : ℕ
ben = 1

abbrev pub cy : ℕ
cy = 2

abbrev pub p1 : ℕ
p1 = 0

-- ann and cy are authors, ben is a checker; ann owns the paper p1
abbrev pub office : State
office =
    let people = (build_subject (build_subject (build_subject empty_table author).0 checker).0 author).0 in
    let papers = (build_object people paper).0 in
    (build_holding max_rights papers ann p1 own).0

-- three counted flags, for every type
abbrev pub three_flags : Settings
three_flags = record {
  flags = 3;
  givers = replicate 16 true;
  receivers = replicate 16 true;
  creators = replicate 16 true;
  served = replicate 16 true;
  strong = false;
  fresh = Counted;
}
