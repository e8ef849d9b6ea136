-- What the proofs of several functions use, and what the crates above cite.
pub mod MemberLaws
pub mod SizeLaws
pub mod ScanLaws
pub mod ClassLaws
pub mod PlainLaws
