-- The proofs of the laws. Each module stands on some of those above it, and on none below; in brackets the module of
-- `src/` with the laws that a group ends in.

-- 1. Headers delimit themselves, and so do layouts: none begins another one (`layouts`).
pub mod LayoutsOfHeaders
pub mod LayoutsApart
-- 2. DER texts are layouts. Values that are the same have one text, since the texts of a SET OF have one arrangement
-- (`values`); how long texts are, and that no length is spelled by fewer octets (`layouts`).
pub mod TextOrder
pub mod TextsAsLayouts
pub mod LengthsOfTexts
pub mod LengthsOfHeaders
pub mod LengthsShortest
pub mod LengthsOfContents
-- 3. Being the same is an equivalence (`values`). A tree of a type says one value, and the DER text of a value spells
-- it (`types`).
pub mod ListsPaired
pub mod ValuesSame
pub mod ValuesOfTrees
pub mod TextsAsTrees
pub mod ReadingDeeper
pub mod TextsSpell
-- 4. What the plain reading takes spells what it answers: headers, leaves, trees, and then values by induction on the
-- type.
pub mod ReadingHeadersSound
pub mod ReadingLeavesSound
pub mod ReadingLayoutsSound
pub mod ReadingSound
-- 5. What is spelled is taken: headers, trees, and then values by induction on the type. With group 4 it is taken
-- exactly (`reading`).
pub mod ReadingOfHeaders
pub mod ReadingOfLayouts
pub mod ReadingComplete
pub mod ReadingOfElements
-- 6. How much longer a DER text may be than the octets that spell its value, and so than those that were read
-- (`growth`).
pub mod GrowthByType
pub mod GrowthBounds
pub mod LengthsOfReadTexts
-- 7. The plain reading halts as the fault grammar says: in headers, among members, in contents, in elements of a type.
-- The fault that stops an element is the one that it finds, and there is one (`faults`); what every fault looks like
-- (`reading`). With groups 4 and 5 each single step is as the definitions have it (`steps`).
pub mod FaultsOfHeaders
pub mod FaultsOfLengths
pub mod ReadingMembers
pub mod FaultsOfContents
pub mod FaultsOfOpenValues
pub mod ReadingSteps
pub mod FaultsOfReading
pub mod FaultsExact
pub mod FaultsPlaced
-- 8. The answer to a whole document (`answers`).
pub mod AnswersOfDocuments
-- 9. What contracts of readers and writers cite of values and types: which are told apart by their texts, which need no
-- earlier field, which are told by their tags; that character strings and times are of a type as the laws ask
-- (`types`).
pub mod TextsTellApart
pub mod TypesClosed
pub mod TypesOfOneTag
pub mod TypesOfStrings
-- 10. Elements with their answers, by computing.
pub mod AnswersComputed
pub mod RowsChoices
pub mod RowsOpenValues
