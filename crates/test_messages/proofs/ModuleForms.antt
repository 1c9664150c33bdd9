-- Messages of the module profile fit, and so their normal forms spell them.
use Rattle.std.proofs.Common.{ℕ, ◌≤◌, length, None, refl, lit≤, slice_get}
use Rattle.std.specs.Prelude.{unwrap_or}
use Rattle.ber_leaf.specs.Leaf.{boolean, integer, enumerated, general_string, iso_date, null_type, object_identifier, octet_string, bit_string}
use Rattle.ber_leaf.specs.Profile.{profile_three}
use Rattle.ill_tables.specs.declared.node.NodeId.{NodeId}
use Rattle.ill_tables.specs.declared.node.NodeId.TheVariants.{Integer, IsoDate, TransactionId, ServiceDateTime, ObjectIdentifier, Encoding, EDeliveryDetails, Externals, Extensions, ElectronicDeliveries, TaggedExternal, DamagedPortion, ModuleDeliveryService, ModuleResults, ModuleIllApdu}
use Rattle.ill_tables.specs.declared.part.{Row.Row, Mode.Mode, Presence.Presence}
use Rattle.ill_schema.specs.Apdu.{Apdu, normal_form_in}
use Rattle.ill_schema.specs.Fits.{Fits, FitsApdu}
use Rattle.ill_tables.specs.Table.{rows_of}
use Rattle.ill_schema.specs.Worked.{number, service_date, transaction}
use Rattle.ill_schema.proofs.Encodings.{normal_spells}
use Rattle.test_messages.specs.Module.{IsModuleForm, arbitrary, damaged, day, extended, identifier, nested, octet_aligned, proposed, returned, supplied}

abbrev row_at : NodeId → ℕ → Row
row_at node n = unwrap_or (slice_get (rows_of node) n) (record { tag = None; mode = Mode.Untagged; presence = Presence.May; node = node })

version_fits : Fits profile_three (number 2) Integer
version_fits = (integer, refl, (refl, refl, refl))

transaction_fits : Fits profile_three transaction TransactionId
transaction_fits = (refl, (tt, (tt, (general_string, refl, (refl, refl, refl)), (tt, (general_string, refl, (refl, refl, refl)), (tt, tt)))))

date_fits : Fits profile_three service_date ServiceDateTime
date_fits = (refl, (tt, (refl, (tt, (iso_date, refl, (refl, refl, refl)), (tt, tt))), (tt, tt)))

day_fits : Fits profile_three day IsoDate
day_fits = (iso_date, refl, (refl, refl, refl))

identifier_fits : Fits profile_three identifier ObjectIdentifier
identifier_fits = (object_identifier, refl, (refl, refl, refl))

pub extended_fits : FitsApdu profile_three (extended (nested 1))
extended_fits = (lit≤ tt, (row_at ModuleIllApdu 19, (refl, refl, tt), (refl, (tt, version_fits, (tt, transaction_fits, (tt, date_fits, (tt, (tt, (tt, (refl, (row_at Extensions 0, refl, (refl, (tt, (integer, refl, (refl, refl, refl)), (tt, (boolean, refl, (refl, refl, refl)), (tt, (refl, refl), tt)))), tt)), tt)))))))))

pub octets_fit : FitsApdu profile_three (returned octet_aligned)
octets_fit = (lit≤ tt, (row_at ModuleIllApdu 9, (refl, refl, tt), (refl, (tt, version_fits, (tt, transaction_fits, (tt, date_fits, (tt, (tt, (tt, (refl, (row_at Externals 0, refl, (row_at TaggedExternal 0, (refl, refl, tt), (refl, (tt, identifier_fits, (tt, (tt, (tt, (row_at Encoding 1, (refl, refl, tt), (octet_string, refl, (refl, refl, refl))), tt)))))), tt)), (tt, day_fits, (tt, (tt, (tt, (tt, tt))))))))))))))

pub bits_fit : FitsApdu profile_three (returned arbitrary)
bits_fit = (lit≤ tt, (row_at ModuleIllApdu 9, (refl, refl, tt), (refl, (tt, version_fits, (tt, transaction_fits, (tt, date_fits, (tt, (tt, (tt, (refl, (row_at Externals 0, refl, (row_at TaggedExternal 0, (refl, refl, tt), (refl, (tt, (tt, (integer, refl, (refl, refl, refl)), (tt, (tt, (row_at Encoding 2, (refl, refl, tt), (bit_string, refl, (refl, refl, refl))), tt)))))), tt)), (tt, day_fits, (tt, (tt, (tt, (tt, tt))))))))))))))

pub damaged_fits : FitsApdu profile_three damaged
damaged_fits = (lit≤ tt, (row_at ModuleIllApdu 15, (refl, refl, tt), (refl, (tt, version_fits, (tt, transaction_fits, (tt, date_fits, (tt, (tt, (tt, (refl, (tt, (tt, (row_at DamagedPortion 0, (refl, refl, tt), (null_type, refl, (refl, refl, refl))), tt))), (tt, (tt, tt)))))))))))

pub supplied_fits : FitsApdu profile_three supplied
supplied_fits = (lit≤ tt, (row_at ModuleIllApdu 3, (refl, refl, tt), (refl, (tt, version_fits, (tt, transaction_fits, (tt, date_fits, (tt, (tt, (tt, (enumerated, refl, (refl, refl, refl)), (tt, (row_at ModuleResults 4, (refl, refl, tt), (refl, (tt, (enumerated, refl, (refl, refl, refl)), (tt, day_fits, (tt, (refl, (tt, (tt, (tt, (tt, (tt, (general_string, refl, (refl, refl, refl)), (tt, (tt, (tt, tt))))))))), (tt, (tt, tt))))))), (tt, (tt, (tt, (tt, (tt, (tt, (tt, tt)))))))))))))))))

pub proposed_fits : FitsApdu profile_three proposed
proposed_fits = (lit≤ tt, (row_at ModuleIllApdu 3, (refl, refl, tt), (refl, (tt, version_fits, (tt, transaction_fits, (tt, date_fits, (tt, (tt, (tt, (enumerated, refl, (refl, refl, refl)), (tt, (row_at ModuleResults 0, (refl, refl, tt), (refl, (tt, (enumerated, refl, (refl, refl, refl)), (tt, (tt, (tt, (row_at ModuleDeliveryService 1, (refl, refl, tt), (refl, (row_at ElectronicDeliveries 0, refl, (refl, (tt, (refl, (tt, (object_identifier, refl, (refl, refl, refl)), (tt, (refl, refl), tt))), (tt, (tt, (tt, (row_at EDeliveryDetails 0, (refl, refl, tt), (refl, (tt, (tt, tt)))), (tt, (tt, tt))))))), tt))), tt)))))), (tt, (tt, (tt, (tt, (tt, (tt, (tt, tt)))))))))))))))))

-- an APDU that fits is spelled by its normal form
pub own : (a : Apdu) → FitsApdu profile_three a → length (normal_form_in profile_three a) ≤ profile_three.limit → IsModuleForm a (normal_form_in profile_three a)
own a fit le = (normal_spells profile_three a fit (lit≤ tt) le, refl)
