pub mod Results
pub mod Fields
