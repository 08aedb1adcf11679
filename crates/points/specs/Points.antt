-- Worked examples, each proved by computation on the definitions that the contracts cite.
use Rattle.std.specs.Prelude.{◌≡◌, List, [], ◌∷◌, replicate, None, Err}
use Rattle.rights.specs.Limits.{max_rights}
use Rattle.rights.specs.Refusals.{refusal_number}
use Rattle.rights.specs.Sets.{nothing}
use Rattle.rights.specs.declared.refusal.Refusal.TheVariants.{EmptyNeed}
use Rattle.rows.specs.Lists.{set_of}
use Rattle.rows.specs.Rules.{book_meaning}
use Rattle.rows.specs.Drafts.{declare_row}
use Rattle.flags.specs.Flags.{flags_meaning}
use Rattle.monitor.specs.declared.step.Step.{Step}
use Rattle.monitor.specs.declared.step.Step.TheVariants.{Create, Transform, Grant}
use Rattle.safety.specs.declared.question.Question.{Question}
use Rattle.safety.specs.declared.question.Question.TheVariants.{Can, CanNew}
use Rattle.safety.specs.declared.question.Reply.{Reply}
use Rattle.safety.specs.declared.question.Reply.TheVariants as reply
use Rattle.safety.specs.Questions.{list_places, placed, asked}
use Rattle.points.specs.Review.{own, seen, ok, print, author, paper, ann, ben, cy, p1, review, office, three_flags}

-- a question of the paper review, with a run list that is long enough
abbrev pub list : List Step
list = replicate (list_places max_rights) (Create 0 0)

abbrev pub review_asked : Question → List Step × Reply
review_asked q = asked max_rights (book_meaning review.book) office q list

pub record Points : Type 0 where
  -- with own alone an author may add nothing to a paper; with own and ok, print
  pub own_adds : (book_meaning review.book).may_add author paper (set_of (own ∷ [])) ≡ nothing
  pub own_ok_adds : (book_meaning review.book).may_add author paper (set_of (own ∷ ok ∷ [])) ≡ set_of (print ∷ [])
  -- of three flags, flag 3 gives the access and the flags 1 and 2, and flag 1 the access
  pub flag_3_gives : (flags_meaning three_flags).may_give 0 0 0 (set_of (3 ∷ [])) ≡ set_of (0 ∷ 1 ∷ 2 ∷ [])
  pub flag_1_gives : (flags_meaning three_flags).may_give 0 0 0 (set_of (1 ∷ [])) ≡ set_of (0 ∷ [])
  -- a row with an empty need is refused with 9, and leaves the draft as it was
  pub empty_need : declare_row review author None paper [] (print ∷ []) ≡ (review, Err EmptyNeed)
  pub empty_need_number : refusal_number EmptyNeed ≡ 9
  -- ann can come to print p1, in three steps; cy never; cy can come to print a new paper, in five; ann owns p1 already
  pub ann_prints : review_asked (Can ann p1 print)
      ≡ (placed (Grant ann ben p1 seen ∷ Grant ben ann p1 ok ∷ Transform ann p1 print ∷ []) list, reply.Can 3)
  pub cy_never : review_asked (Can cy p1 print) ≡ (list, reply.Never)
  pub cy_prints_new : review_asked (CanNew cy paper print)
      ≡ (placed (Create cy paper ∷ Grant cy ben 1 seen ∷ Grant ben ann 1 ok ∷ Grant ben cy 1 ok ∷ Transform cy 1 print ∷ []) list, reply.Can 5)
  pub ann_owns : review_asked (Can ann p1 own) ≡ (list, reply.Can 0)
