pub mod HeldValues
mod HeldSends
pub mod Named
pub mod Slices
mod Tables
mod Runs
mod Unshown
mod Marks
mod Lending
mod LentTold
mod Seen
mod Told
mod Laying
mod Serving
mod Scattering
mod Gathered
mod Releasing
mod Polling
mod Tags
