mod Lines
mod Plain
mod TextLaws
mod Unsaid
