pub mod PairwiseLaws
pub mod SpanLaws
