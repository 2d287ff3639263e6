-- What the proofs share.
mod Called
mod Room
mod Tests
