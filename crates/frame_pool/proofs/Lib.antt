mod Blanking
pub mod PoolLaws
