use Rattle.std.proofs.Common.{lit≤, refl}
use Rattle.test_messages.specs.Module.{arbitrary, damaged, extended, nested, octet_aligned, proposed, returned, supplied}
use Rattle.test_messages.proofs.ModuleForms.{bits_fit, damaged_fits, extended_fits, octets_fit, own, proposed_fits, supplied_fits}
use Rattle.test_messages.proofs.schema.module.worked_messages_of_the_module.Goals as goal

pub returns-clause-extension_with_sequence : goal.returns-clause-extension_with_sequence
returns-clause-extension_with_sequence c = own (extended (nested 1)) extended_fits (lit≤ tt)

pub returns-clause-external_octets : goal.returns-clause-external_octets
returns-clause-external_octets c = own (returned octet_aligned) octets_fit (lit≤ tt)

pub returns-clause-external_bits : goal.returns-clause-external_bits
returns-clause-external_bits c = own (returned arbitrary) bits_fit (lit≤ tt)

pub returns-clause-damaged_whole : goal.returns-clause-damaged_whole
returns-clause-damaged_whole c = own damaged damaged_fits (lit≤ tt)

pub returns-clause-will_supply : goal.returns-clause-will_supply
returns-clause-will_supply c = own supplied supplied_fits (lit≤ tt)

pub returns-clause-deepest_normal_form : goal.returns-clause-deepest_normal_form
returns-clause-deepest_normal_form c = own proposed proposed_fits (lit≤ tt)

pub returns-clause-depth : goal.returns-clause-depth
returns-clause-depth c = refl
