-- The laws of the model: its theorems first, then what they rest on.

-- the paper's example, and its cases computed
pub mod Example
pub mod Cases
pub mod ReadingExamples
-- the theorems, a file each
pub mod ExactModels
pub mod EdgesMet
pub mod AbsentAttributes
pub mod LookedAt
pub mod TextOrder
pub mod TextRelations
pub mod RoundTrip
pub mod Weaving
pub mod RowsHad
pub mod Accepted
-- tests, lists and outcomes
pub mod Decides
pub mod Members
pub mod Places
pub mod FirstNames
pub mod Outcomes
pub mod AllowedBytes
pub mod Skips
pub mod Standings
-- models of a text, by nodes and by number
pub mod Chains
pub mod ByNodes
pub mod Choices
pub mod NumberedMappings
-- what accepted texts hold
pub mod Scopes
pub mod LineItems
pub mod AcceptedQuery
pub mod AcceptedRules
pub mod AcceptedRequest
-- the woven pattern
pub mod WovenVertices
pub mod WovenNames
pub mod Families
pub mod WovenParts
pub mod Exclusions
pub mod WovenMapping
pub mod WovenFamily
-- the written query
pub mod WrittenSigns
pub mod WrittenConditions
pub mod WrittenText
pub mod WrittenPieces
pub mod WritableSigns
pub mod WritablePieces
pub mod WellFormed
pub mod ReadBack
pub mod ReadBackFaults
pub mod WrittenForm
pub mod WrittenBytes
pub mod WrittenReads
-- the rows in order; categories below one and vertices tied to an identity as closures
pub mod Pairwise
pub mod Ascending
pub mod Closures
pub mod Enforced
pub mod Tied
-- refusals: exclusive, complete, in the paper's order
pub mod Faults
pub mod LowestFaults
pub mod TextRefusals
pub mod Refusals
pub mod RenamingRefusals
pub mod TidyRefusals
pub mod ListRefusals
pub mod TableRows
-- computed: two faults at once, the limits of a full book, whole answers of queries, the traps, whole answers of the request reader
pub mod RefusalCases
pub mod WholeCases
pub mod Traps
pub mod RequestAnswerCases
-- texts in byte order, computed; how many entries are looked at
pub mod TextOrderCases
pub mod LookedAtCases
-- the renaming and the tidy book, computed
pub mod RenamingCases
pub mod TidyCases
