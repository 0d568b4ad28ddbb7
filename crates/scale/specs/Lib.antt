pub mod Laws
pub mod Forms
pub mod Ranges
pub mod Sets
pub mod RangeFacts
pub mod FourBytes
pub mod SetFacts
pub mod Texts
