use Rattle.std.proofs.Common.{refl}
use Rattle.test_messages.proofs.schema.module.bits_in_segments_are_joined.Goals as goal

pub returns-clause-in_segments : goal.returns-clause-in_segments
returns-clause-in_segments c = refl

pub returns-clause-in_nested_segments : goal.returns-clause-in_nested_segments
returns-clause-in_nested_segments c = refl

pub returns-clause-no_segments : goal.returns-clause-no_segments
returns-clause-no_segments c = refl

pub returns-clause-sound : goal.returns-clause-sound
returns-clause-sound c = (refl, refl, refl)

pub returns-clause-short_first_segment : goal.returns-clause-short_first_segment
returns-clause-short_first_segment c = refl

pub returns-clause-segment_after_short_one : goal.returns-clause-segment_after_short_one
returns-clause-segment_after_short_one c = refl

pub returns-clause-octet_segment : goal.returns-clause-octet_segment
returns-clause-octet_segment c = refl
