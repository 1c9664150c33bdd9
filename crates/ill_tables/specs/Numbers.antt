-- The names of numbers: those that the module of ISO 10161-1 gives to the numbers of its ENUMERATED types.
use Rattle.std.specs.Prelude.{ℕ, suc, ℤ, pos, List, [], ◌∷◌, ◌++◌, codes, Option, Some, None, if◌then◌else◌}
use Rattle.std.specs.Ordering.{int_eq}
use Rattle.std.specs.Str.{bytes_eq}
use Rattle.ill_tables.specs.Names.{words_of}
use Rattle.ill_tables.specs.declared.number.Enumeration.{Enumeration}
use Rattle.ill_tables.specs.declared.number.Enumeration.TheVariants.{Conditions, CurrentState, GeneralProblem, MostRecentService, IllApduType, IllServiceType, IntermediaryProblem, ItemType, MediumType, PlaceOnHoldType, ReasonLocsProvided, ReasonNoReport, ReasonUnfilled, ReportSource, OptionalMessages, ReasonNotAvailable, ExpiryFlag, ShippedConditions, SupplyMediumType, Preference, TransactionIdProblem, TransactionResults, TransactionType, UnableToPerform, ReasonWillSupply}

-- The type of the numbers of a row of this name; items of a list inside a row have the row's name. A type that the module writes in a row has
-- the name of that row, and one that two rows of a type have, that of their type.
unfoldable pub enumeration_of : List ℕ → Option Enumeration
enumeration_of row =
    if bytes_eq row (codes "conditions") then Some Conditions else
    if bytes_eq row (codes "provider-status-report") then Some CurrentState else
    if bytes_eq row (codes "current-state") then Some CurrentState else
    if bytes_eq row (codes "general-problem") then Some GeneralProblem else
    if bytes_eq row (codes "most-recent-service") then Some MostRecentService else
    if bytes_eq row (codes "apdu-type") then Some IllApduType else
    if bytes_eq row (codes "ill-service-type") then Some IllServiceType else
    if bytes_eq row (codes "shipped-service-type") then Some IllServiceType else
    if bytes_eq row (codes "intermediary-problem") then Some IntermediaryProblem else
    if bytes_eq row (codes "item-type") then Some ItemType else
    if bytes_eq row (codes "held-medium-type") then Some MediumType else
    if bytes_eq row (codes "hold-placed-medium-type") then Some MediumType else
    if bytes_eq row (codes "place-on-hold") then Some PlaceOnHoldType else
    if bytes_eq row (codes "reason-locs-provided") then Some ReasonLocsProvided else
    if bytes_eq row (codes "reason-no-report") then Some ReasonNoReport else
    if bytes_eq row (codes "reason-unfilled") then Some ReasonUnfilled else
    if bytes_eq row (codes "report-source") then Some ReportSource else
    if bytes_eq row (codes "requester-shipped") then Some OptionalMessages else
    if bytes_eq row (codes "requester-checked-in") then Some OptionalMessages else
    if bytes_eq row (codes "responder-received") then Some OptionalMessages else
    if bytes_eq row (codes "responder-returned") then Some OptionalMessages else
    if bytes_eq row (codes "reason-not-available") then Some ReasonNotAvailable else
    if bytes_eq row (codes "expiry-flag") then Some ExpiryFlag else
    if bytes_eq row (codes "shipped-conditions") then Some ShippedConditions else
    if bytes_eq row (codes "supply-medium-type") then Some SupplyMediumType else
    if bytes_eq row (codes "medium") then Some SupplyMediumType else
    if bytes_eq row (codes "preference") then Some Preference else
    if bytes_eq row (codes "transaction-id-problem") then Some TransactionIdProblem else
    if bytes_eq row (codes "transaction-results") then Some TransactionResults else
    if bytes_eq row (codes "transaction-type") then Some TransactionType else
    if bytes_eq row (codes "unable-to-perform") then Some UnableToPerform else
    if bytes_eq row (codes "reason-will-supply") then Some ReasonWillSupply else
    None

-- numbers, each with its name
abbrev pub Named : Type 0
Named = List (ℤ × List ℕ)

-- names of n, of the next number and so on
abbrev numbered : ℕ → List (List ℕ) → Named
numbered n [] = []
numbered n (name ∷ names) = (pos n, name) ∷ numbered (suc n) names

abbrev from : ℕ → List ℕ → Named
from n names = numbered n (words_of names)

-- the numbers of each type, with the names that the module gives them
abbrev pub numbers_of : Enumeration → Named
numbers_of Conditions =
    from 13 (codes "cost-exceeds-limit charges prepayment-required lacks-copyright-compliance")
    ++ from 22 (codes "library-use-only no-reproduction client-signature-required special-collections-supervision-required")
    ++ from 27 (codes "other responder-specific") ++ from 30 (codes "proposed-delivery-service")
numbers_of CurrentState =
    from 1 (codes "nOT-SUPPLIED pENDING iN-PROCESS fORWARD cONDITIONAL cANCEL-PENDING cANCELLED sHIPPED rECEIVED rENEW-PENDING "
    ++ codes "nOT-RECEIVED-OVERDUE rENEW-OVERDUE oVERDUE rETURNED cHECKED-IN rECALL lOST uNKNOWN")
numbers_of GeneralProblem =
    from 1 (codes "unrecognized-APDU mistyped-APDU badly-structured-APDU protocol-version-not-supported other")
numbers_of MostRecentService =
    from 1 (codes "iLL-REQUEST fORWARD-NOTIFICATION sHIPPED iLL-ANSWER cONDITIONAL-REPLY cANCEL cANCEL-REPLY rECEIVED rECALL "
    ++ codes "rETURNED cHECKED-IN")
    ++ from 14 (codes "rENEW-ANSWER lOST dAMAGED mESSAGE sTATUS-QUERY sTATUS-OR-ERROR-REPORT eXPIRED fORWARD")
numbers_of IllApduType =
    from 1 (codes "iLL-REQUEST fORWARD-NOTIFICATION sHIPPED iLL-ANSWER cONDITIONAL-REPLY cANCEL cANCEL-REPLY rECEIVED rECALL "
    ++ codes "rETURNED cHECKED-IN oVERDUE rENEW rENEW-ANSWER lOST dAMAGED mESSAGE sTATUS-QUERY sTATUS-OR-ERROR-REPORT eXPIRED")
numbers_of IllServiceType = from 1 (codes "loan copy-non-returnable locations estimate responder-specific")
numbers_of IntermediaryProblem = from 1 (codes "cannot-send-onward")
numbers_of ItemType = from 1 (codes "monograph serial other")
numbers_of MediumType =
    from 1 (codes "printed") ++ from 3 (codes "microform film-or-video-recording audio-recording machine-readable other")
numbers_of PlaceOnHoldType = from 1 (codes "yes no according-to-responder-policy")
numbers_of ReasonLocsProvided =
    from 1 (codes "in-use-on-loan in-process lost non-circulating not-owned on-order volume-issue-not-yet-available at-bindery "
    ++ codes "lacking not-on-shelf on-reserve poor-condition cost-exceeds-limit") ++ from 19 (codes "on-hold")
    ++ from 27 (codes "other responder-specific")
numbers_of ReasonNoReport = from 1 (codes "temporary permanent")
numbers_of ReasonUnfilled =
    from 1 (codes "in-use-on-loan in-process lost non-circulating not-owned on-order volume-issue-not-yet-available at-bindery "
    ++ codes "lacking not-on-shelf on-reserve poor-condition cost-exceeds-limit charges prepayment-required "
    ++ codes "lacks-copyright-compliance not-found-as-cited locations-not-found on-hold policy-problem "
    ++ codes "mandatory-messaging-not-supported expiry-not-supported requested-delivery-services-not-supported "
    ++ codes "preferred-delivery-time-not-possible") ++ from 27 (codes "other responder-specific")
numbers_of ReportSource = from 1 (codes "user provider")
numbers_of OptionalMessages = from 1 (codes "requires desires neither")
numbers_of ReasonNotAvailable =
    from 1 (codes "in-use-on-loan in-process") ++ from 6 (codes "on-order volume-issue-not-yet-available at-bindery")
    ++ from 13 (codes "cost-exceeds-limit charges prepayment-required lacks-copyright-compliance not-found-as-cited")
    ++ from 19 (codes "on-hold") ++ from 27 (codes "other responder-specific")
numbers_of ExpiryFlag = from 1 (codes "need-Before-Date other-Date no-Expiry")
numbers_of ShippedConditions =
    from 22 (codes "library-use-only no-reproduction client-signature-required special-collections-supervision-required")
    ++ from 27 (codes "other")
numbers_of SupplyMediumType =
    from 1 (codes "printed photocopy microform film-or-video-recording audio-recording machine-readable other")
numbers_of Preference = from 1 (codes "ordered unordered")
numbers_of TransactionIdProblem = from 1 (codes "duplicate-transaction-id invalid-transaction-id unknown-transaction-id")
numbers_of TransactionResults = from 1 (codes "conditional retry unfilled locations-provided will-supply hold-placed estimate")
numbers_of TransactionType = from 1 (codes "simple chained partitioned")
numbers_of UnableToPerform = from 1 (codes "not-available resource-limitation other")
numbers_of ReasonWillSupply =
    from 1 (codes "in-use-on-loan in-process") ++ from 6 (codes "on-order") ++ from 8 (codes "at-bindery")
    ++ from 19 (codes "on-hold") ++ from 26 (codes "being-processed-for-supply other responder-specific")
    ++ from 30 (codes "electronic-delivery")

abbrev pub numbers_in : Option Enumeration → Named
numbers_in None = []
numbers_in (Some enumeration) = numbers_of enumeration

-- the numbers that have a name in a row of this name, with those names
unfoldable pub number_names : List ℕ → Named
number_names row = numbers_in (enumeration_of row)

-- the name of a number among these
abbrev pub name_in : ℤ → Named → Option (List ℕ)
name_in n [] = None
name_in n (named ∷ rest) = if int_eq named.0 n then Some named.1 else name_in n rest

-- the name of a number in a row of this name
unfoldable pub number_name : List ℕ → ℤ → Option (List ℕ)
number_name row n = name_in n (number_names row)
