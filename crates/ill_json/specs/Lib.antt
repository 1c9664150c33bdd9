pub mod Json
pub mod Results
pub mod Built
pub mod code
