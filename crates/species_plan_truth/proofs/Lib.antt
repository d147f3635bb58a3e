pub mod MarkLaws
mod AddLemmas
mod AddOnlyLemmas
mod AddCountLemmas
mod MeetLemmas
pub mod MeetLaws
pub mod MeetRunLaws
pub mod SaidLaws
mod LineMarks
mod LineBands
mod LineHolds
mod LineApart
mod BandChoices
mod BandNames
mod BandDeep
mod BandReadable
mod BandNear
mod TruthStands
mod LinePlans
mod LineReadable
mod LineTruth
mod TruthApart
mod TruthLawful
mod TruthNames
mod LineNames
mod TruthSpelt
mod SpeltTexts
pub mod SpeltLaws
