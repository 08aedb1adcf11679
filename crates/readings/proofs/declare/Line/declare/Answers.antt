use Rattle.readings.proofs.Settling.{named_as}
use Rattle.readings.proofs.declare.Line.declare.Goals as goal

pub returns-in-Right : goal.returns-in-Right
returns-in-Right c = rw (c.in-Right.is, ← c.word_bytes.ensures) (named_as c.args.draft.now c.add_right.new.self _ c.add_right.result c.map.result _ c.add_right.ensures.value c.map.ensures.cases)

pub returns-in-SubjectType : goal.returns-in-SubjectType
returns-in-SubjectType c = rw (c.in-SubjectType.is, ← c.word_bytes-in-SubjectType.ensures) (named_as c.args.draft.now c.add_subject_type.new.self _ c.add_subject_type.result c.map-in-SubjectType.result _ c.add_subject_type.ensures.value c.map-in-SubjectType.ensures.cases)

pub returns-in-ObjectType : goal.returns-in-ObjectType
returns-in-ObjectType c = rw (c.in-ObjectType.is, ← c.word_bytes-in-ObjectType.ensures) (named_as c.args.draft.now c.add_object_type.new.self _ c.add_object_type.result c.map-in-ObjectType.result _ c.add_object_type.ensures.value c.map-in-ObjectType.ensures.cases)

pub returns-in-Create : goal.returns-in-Create
returns-in-Create c = rw (c.in-Create.is, ← c.deref.ensures.value) c.create.ensures

pub returns-in-Transform : goal.returns-in-Transform
returns-in-Transform c = rw (c.in-Transform.is, ← c.deref-in-Transform.ensures.value, ← c.deref-in-Transform-2.ensures.value) c.transform.ensures

pub returns-in-Grant : goal.returns-in-Grant
returns-in-Grant c = rw (c.in-Grant.is, ← c.deref-in-Grant.ensures.value, ← c.deref-in-Grant-2.ensures.value) c.grant.ensures
