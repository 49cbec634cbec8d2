mod Firsts
mod Merging
mod PushedRange
mod Pushing
mod Taking
pub use Rattle.xfs_built.proofs as xfs_built
