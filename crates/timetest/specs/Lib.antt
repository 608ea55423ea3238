pub mod Limit
pub mod LimitLaws
