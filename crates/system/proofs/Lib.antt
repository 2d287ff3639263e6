-- What the proofs of recovery share.
mod Allowance
mod Named
mod Refused
mod Tests
