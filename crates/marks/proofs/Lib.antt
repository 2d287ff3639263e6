-- What the code's steps through a row rest on.
mod Row
