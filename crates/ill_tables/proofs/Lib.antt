pub mod RowNames
pub mod DistinctNames
pub mod NumberNames
