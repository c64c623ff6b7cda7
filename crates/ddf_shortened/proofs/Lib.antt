mod Seen
mod Looked
mod Below
mod Behind
mod Lasting
