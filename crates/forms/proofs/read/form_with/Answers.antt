use Rattle.std.proofs.Common.{refl}
use Rattle.meaning.specs.Forms.{right, subject_type, object_type, owner}
use Rattle.forms.specs.declared.form.Form.TheVariants.{Right, SubjectType, ObjectType, Owner}
use Rattle.forms.proofs.Steps.{wrapped}
use Rattle.forms.proofs.read.form_with.Goals as goal

pub returns-in-Right : goal.returns-in-Right
returns-in-Right c = rw c.in-Right.is (λ line. wrapped line _ right (λ w. Right w) _ _ (λ w. refl) c.map.ensures.cases (c.only_name.ensures line right))

pub returns-in-SubjectType : goal.returns-in-SubjectType
returns-in-SubjectType c = rw c.in-SubjectType.is (λ line. wrapped line _ subject_type (λ w. SubjectType w) _ _ (λ w. refl) c.map-in-SubjectType.ensures.cases (c.only_name-in-SubjectType.ensures line subject_type))

pub returns-in-ObjectType : goal.returns-in-ObjectType
returns-in-ObjectType c = rw c.in-ObjectType.is (λ line. wrapped line _ object_type (λ w. ObjectType w) _ _ (λ w. refl) c.map-in-ObjectType.ensures.cases (c.only_name-in-ObjectType.ensures line object_type))

pub returns-in-Owner : goal.returns-in-Owner
returns-in-Owner c = rw c.in-Owner.is (λ line. wrapped line _ owner (λ w. Owner w) _ _ (λ w. refl) c.map-in-Owner.ensures.cases (c.only_name-in-Owner.ensures line owner))

pub returns-in-Create : goal.returns-in-Create
returns-in-Create c = rw c.in-Create.is c.create.ensures

pub returns-in-Transform : goal.returns-in-Transform
returns-in-Transform c = rw c.in-Transform.is c.transform.ensures

pub returns-in-Grant : goal.returns-in-Grant
returns-in-Grant c = rw c.in-Grant.is c.grant.ensures
