pub mod GatherLaws
pub mod SortLaws
